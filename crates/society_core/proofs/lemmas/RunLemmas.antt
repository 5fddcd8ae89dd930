-- A run goes on by one step.
use Rattle.std.proofs.Common.{◌≡◌, Bool, IsTrue, ◌+◌, List, [], ◌∷◌, ◌++◌, refl, sym, ap, subst, ◌∙◌, map, append_assoc}
use Rattle.std.proofs.lemmas.List.{length_push, map_push}
use Rattle.share_rules.specs.declared.office.Office.{Office}
use Rattle.society_core.specs.Book.{Book}
use Rattle.society_core.specs.Requests.{Query, Reply, query_of, reply_of}
use Rattle.society_core.specs.Runs.{Step, Run, AppendsRun}
use Rattle.society_core.specs.declared.request.Request.{Request}
use Rattle.society_core.specs.declared.answers.Answer.{Answer}

-- a run goes on by one step
pub run_on : (o : Office) (b : Book) (qs : List Query) (rs : List Reply) (c : Book) (q : Query) (r : Reply) (d : Book) → Run o b qs rs c → Step o c q r d → Run o b (qs ++ q ∷ []) (rs ++ r ∷ []) d
run_on o b [] [] c q r d same step = (d, subst (λ (x : Book). Step o x q r d) same step, refl)
run_on o b (p ∷ qs) (a ∷ rs) c q r d run step = (run.0, run.1, run_on o run.0 qs rs c q r d run.2 step)
run_on o b [] (a ∷ rs) c q r d run step = absurd run
run_on o b (p ∷ qs) [] c q r d run step = absurd run

-- one more request is run
pub appends_more : (o : Office) (b c d : Book) (clean after : Bool) (requests : List Request) (old new newer : List Answer) (request : Request) (answer : Answer) → AppendsRun o b c clean requests old new → (IsTrue after → IsTrue clean) → (IsTrue after → Step o c (query_of request) (reply_of answer) d) → newer ≡ new ++ answer ∷ [] → AppendsRun o b d after (requests ++ request ∷ []) old newer
appends_more o b c d clean after requests old new newer request answer so_far keeps step pushed = record {
  more = so_far.more ++ answer ∷ [];
  appended = pushed ∙ ap (λ (xs : List Answer). xs ++ answer ∷ []) so_far.appended ∙ append_assoc old so_far.more (answer ∷ []);
  count = length_push so_far.more answer ∙ sym (length_push requests request ∙ ap (λ n. n + 1) (sym so_far.count));
  run = λ still.
      let on = run_on o b (map query_of requests) (map reply_of so_far.more) c (query_of request) (reply_of answer) d (so_far.run (keeps still)) (step still) in
      subst (λ (xs : List Query). Run o b xs (map reply_of (so_far.more ++ answer ∷ [])) d) (sym (map_push query_of requests request))
      (subst (λ (xs : List Reply). Run o b (map query_of requests ++ query_of request ∷ []) xs d) (sym (map_push reply_of so_far.more answer)) on);
}
