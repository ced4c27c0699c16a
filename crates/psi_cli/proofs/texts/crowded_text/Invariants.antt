use Rattle.std.proofs.Common.{◌≡◌, map, string_bytes, take}
use Rattle.psi_cli.specs.Texts.{crowded_text}
use Rattle.psi_cli.proofs.texts.crowded_text.Given as goal

abbrev pub invariant-loop-number : goal.invariant-loop-number
invariant-loop-number l = string_bytes l.text ≡ crowded_text (map (λ item. item.items) l.items) (take l.number-index l.numbers)
