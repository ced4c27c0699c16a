use Rattle.std.proofs.Common.{◌≡◌, ◌≤◌, ◌<◌, ◌*◌, ℕ, List, [], ◌∷◌, ◌∙◌, ap, sym, subst, length}
use Rattle.std.specs.List.{All}
use Rattle.item_slots.specs.Tags.{position_at, positions_of, rising}
use Rattle.item_slots.proofs.PositionLaws.{positions-below, length-positions}
use Rattle.item_slots.proofs.tag.positions.Goals as goal

pub returns : goal.returns
unfolding position_at
returns c =
    let listed : c.of.result ≡ positions_of c.args.rows c.args.tag.now =
    c.of.ensures
    ∙ ap rising (λ i. c.position_at.ensures.value i ∷ c.position_at-2.ensures.value i ∷ c.position_at-3.ensures.value i ∷ [])
    ∙ ap (positions_of c.args.rows) c.tag.view_is
    in
    record {
      listed = listed;
      below = subst (λ (ps : List ℕ). All (λ p. p < 819 * c.args.rows) ps) (sym listed) (positions-below c.args.rows c.args.tag.now c.requires.some);
      few = subst (λ (ps : List ℕ). length ps ≤ 3) (sym listed) (length-positions c.args.rows c.args.tag.now);
    }
