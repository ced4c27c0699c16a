use Rattle.std.proofs.Common.{◌≡◌, List}
use Rattle.psi_bundle.specs.declared.member.Member.{Member}
use Rattle.sender_core.specs.Given.{IsViewOf}
use Rattle.sender_core.specs.Kept.{RowSight, start_of}
use Rattle.sender_core.proofs.tests.drop_all_along.Given as goal

abbrev pub invariant-loop-made : goal.invariant-loop-made
invariant-loop-made l = record {
  parameters : l.book.parameters ≡ l.initial.book.parameters;
  views : (v : RowSight (List (List Member))) → IsViewOf (start_of l.initial.book) l.initial.book.journal v → IsViewOf (start_of l.book) l.book.journal v;
}
