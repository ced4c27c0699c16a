use Rattle.std.proofs.Common.{◌∙◌, ap, sym, subst, List}
use Rattle.sender_core.specs.declared.undo.Undo.{Undo}
use Rattle.sender_core.specs.Kept.{Kept}
use Rattle.sender_core.specs.Shown.{kept_of_rows}
use Rattle.sender_core.specs.UndoLogs.{rolled_back, CanRollBack}
use Rattle.sender_core.proofs.UndoLemmas.{can-last, rolled-last}
use Rattle.sender_core.proofs.undo.roll_back.Goals as goal

pub put_back-requires : goal.put_back-requires
put_back-requires g c =
    let rows = kept_of_rows c.loop-change.rows.items in
    (can-last c.pop.new.self.items c.in-Some.change rows (subst (λ (us : List (Undo g.row.C.Denot)). CanRollBack us rows) c.in-Some.ensures.items c.loop-change.invariant.can)).0

pub loop-change-preserved : goal.loop-change-preserved
loop-change-preserved g c =
    let rows = kept_of_rows c.loop-change.rows.items in
    let left = c.pop.new.self.items in
    let can = can-last left c.in-Some.change rows (subst (λ (us : List (Undo g.row.C.Denot)). CanRollBack us rows) c.in-Some.ensures.items c.loop-change.invariant.can) in
    record {
      can = subst (λ (ks : List (List (Kept g.row.C.Denot))). CanRollBack left ks) (sym c.put_back.ensures) can.1;
      to = ap (λ (ks : List (List (Kept g.row.C.Denot))). rolled_back left ks) c.put_back.ensures ∙ sym (rolled-last left c.in-Some.change rows)
          ∙ ap (λ (us : List (Undo g.row.C.Denot)). rolled_back us rows) (sym c.in-Some.ensures.items) ∙ c.loop-change.invariant.to;
    }
