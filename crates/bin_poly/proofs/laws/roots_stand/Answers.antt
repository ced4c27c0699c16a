use Rattle.bin_poly.proofs.Products.{all_stand}
use Rattle.bin_poly.proofs.laws.roots_stand.Goals as goal

pub returns : goal.returns
returns c = all_stand
