use Rattle.live_sender.proofs.BookCalls.{stays, viewed}
use Rattle.live_sender.proofs.looking.FetchesRowActLive.act.Goals as goal

pub returns-clause-does : goal.returns-clause-does
returns-clause-does g c = (
  stays g.C.Cached.contents g.C.Cached.is_under c.live.inside.book c.args.live.now c.live.view_is c.know.ensures,
  viewed g.C.Cached.contents g.C.Cached.is_under c.live.inside.book c.args.live.now c.args.self.now.row c.fetch_row.result c.live.view_is c.know.ensures c.fetch_row.ensures.shown c.fetch_row.ensures.of_history,
)
