use Rattle.std.proofs.Common.{sym, refl}
use Rattle.serde_json.proofs.Views.{members_len-members_view}
use Rattle.http_text.proofs.json_body.has_members.Goals as goal

pub returns-in-Some : goal.returns-in-Some
returns-in-Some c = rw (sym c.in-Some.ensures, members_len-members_view c.in-Some.members.now.entries, c.len.ensures.len) refl
