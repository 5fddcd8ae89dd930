use Rattle.std.proofs.Common.{refl, sym}
use Rattle.society_core.specs.Requests.{Puts}
use Rattle.http_desk.specs.Feeding.{pending}
use Rattle.http_desk.specs.Input.{unread}
use Rattle.http_desk.proofs.lemmas.AnsweringLemmas.{takes_fed}
use Rattle.http_desk.proofs.lemmas.FeedingLemmas.{fed_refused}
use Rattle.http_desk.proofs.answering.answer_fed.Goals as goal

pub returns-in-Ok-Whole-clause-comes : goal.returns-in-Ok-Whole-clause-comes
returns-in-Ok-Whole-clause-comes g c =
    let f = rw c.in-Ok-Whole.field-0-is at c.in-Ok-Whole.ensures.feeds in
    record {
      bytes = pending (unread c.args.room.now.input) c.args.head.now f.so_far.fed (unread c.feed_request.new.input);
      reads = f.so_far.read_on;
      comes =
          takes_fed g.S.Store.state c.args.desk.now c.ask-answer.new.desk (unread c.args.room.now.input) (unread c.feed_request.new.input) _ _ _ _ _ _ c.args.head.now c.feed_request.new.sink f.left c.tell.result c.args.key _
          f.so_far c.requires.head f.ends c.requires.asks c.tell.ensures.tells (λ bytes was. c.ask-answer.ensures (Puts c.args.key.sender c.args.key.number bytes) (bytes, was, refl));
    }

pub returns-in-Ok-Cut-clause-comes : goal.returns-in-Ok-Cut-clause-comes
returns-in-Ok-Cut-clause-comes g c =
    let f = rw c.in-Ok-Cut.field-0-is at c.in-Ok-Cut.ensures.feeds in
    record {
      bytes = pending (unread c.args.room.now.input) c.args.head.now f.so_far.fed (unread c.feed_request.new.input);
      reads = f.so_far.read_on;
      comes = (f.ends (g.S.Store.state c.args.desk.now).office.society, refl);
    }

pub returns-in-Ok-Refused-clause-comes : goal.returns-in-Ok-Refused-clause-comes
returns-in-Ok-Refused-clause-comes g c =
    let f = rw c.in-Ok-Refused.field-0-is at c.in-Ok-Refused.ensures.feeds in
    record {
      bytes = pending (unread c.args.room.now.input) c.args.head.now f.so_far.fed (unread c.feed_request.new.input);
      reads = f.so_far.read_on;
      comes = (
        fed_refused (unread c.args.room.now.input) _ _ _ c.args.head.now (unread c.feed_request.new.input) _ _ _ c.feed_request.new.sink f.left f.so_far c.requires.head (g.S.Store.state c.args.desk.now).office.society f.ends
            (c.args.key.sender, c.args.key.number, λ body. sym (c.requires.asks c.requires.head body)),
        refl,
      );
    }
