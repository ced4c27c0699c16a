use Rattle.std.proofs.Common.{◌≡◌, ◌++◌, codes, string_bytes, take}
use Rattle.std.specs.List.{flat_map}
use Rattle.psi_demo.specs.Texts.{spaced}
use Rattle.psi_demo.proofs.texts.push_stable.Given as goal

abbrev pub invariant-loop-count : goal.invariant-loop-count
invariant-loop-count l = string_bytes l.text ≡ string_bytes l.fn.text ++ codes "stable" ++ flat_map spaced (take l.count-index l.stable)
