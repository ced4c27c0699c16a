-- Lists of requests and of replies, by lane.
use Rattle.std.specs.Prelude.{List, map}
use Rattle.std.specs.Global.{Vec}
use Rattle.psi_frames.specs.declared.reply.Reply.{Reply}
use Rattle.psi_frames.specs.declared.request.Request.{Request}
use Rattle.query_pool.specs.declared.lane.Numbered.{Numbered}
use Rattle.query_pool.specs.Lanes.{asked}

-- the requests of each lane
abbrev pub asked_lists : List (Vec Numbered) → List (List Request)
asked_lists lanes = map (λ v. asked v.items) lanes

-- the replies of each
abbrev pub listed : List (Vec Reply) → List (List Reply)
listed lanes = map (λ v. v.items) lanes
