use Rattle.std.proofs.Common.{rules}
use Rattle.sender_core.specs.Kept.{start_of}
use Rattle.sender_core.specs.Given.{IsJobOf}
use Rattle.sender_core.specs.Tries.{job_of}
use Rattle.sender_core.proofs.tests.caches_come_back_for_bundles_that_stand.Goals as goal

pub bring-requires : goal.bring-requires
bring-requires g c =
    let task = job_of c.expect-first.result in
    let given : IsJobOf (start_of c.put-2.new.book) c.put-2.new.book.journal task = search rules in
    c.put-3.ensures.jobs task given
