use Rattle.std.proofs.Common.{◌∙◌, ap, subst, arith, length, get_or, ℕ, [], ◌*◌, ◌+◌}
use Rattle.psi_bundle.specs.Planes.{packed_plane}
use Rattle.bundle_cache.specs.Caches.{CacheOf, IsCache}
use Rattle.bundle_cache.proofs.Cells.{row-at, row-within, length-bundle_rows, length-transforms_of}
use Rattle.bundle_cache.proofs.cache.Cache.row.Goals as goal

pub row-requires : goal.row-requires
row-requires c =
    let whole = subst IsCache c.self.view_is c.self.invariant in
    let held = ap (λ (x : CacheOf). length x.block.held) c.self.view_is ∙ ap length whole.rows ∙ length-bundle_rows c.args.self.now.parameters c.args.self.now.bins in
    let within = row-within c.args.self.now.parameters c.args.plane c.args.k c.requires.plane c.requires.power in
    let at = ap (λ (n : ℕ). c.args.plane * (n + 1) + c.args.k) c.capacity.ensures.capacity in
    record { held = omega (arith, within, held, at) }

pub returns-clause-transforms : goal.returns-clause-transforms
returns-clause-transforms c =
    let whole = subst IsCache c.self.view_is c.self.invariant in
    let p = c.args.self.now.parameters in
    c.row.ensures.row
    ∙ (λ i. get_or (c.self.view_is i).block.held (c.args.plane * (c.capacity.ensures.capacity i + 1) + c.args.k) [])
    ∙ row-at p c.args.self.now.bins c.args.self.now.block.held c.args.plane c.args.k whole.rows c.requires.plane c.requires.power

pub returns-clause-size : goal.returns-clause-size
returns-clause-size c = ap length (returns-clause-transforms c) ∙ length-transforms_of (packed_plane c.args.self.now.parameters c.args.self.now.bins c.args.plane c.args.k)
