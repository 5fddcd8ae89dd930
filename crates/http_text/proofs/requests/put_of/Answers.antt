use Rattle.std.proofs.Common.{◌≡◌, ℕ, List, ap, sym, ◌∙◌}
use Rattle.society_core.specs.Requests.{Query}
use Rattle.http_text.specs.Parameters.{parts_of}
use Rattle.http_text.specs.Path.{asked_by_put}
use Rattle.http_text.specs.declared.routes.Route.{Route}
use Rattle.http_text.proofs.requests.put_of.Goals as goal

-- what one of the routes asks of every office, it asks of this one
asked_at : (society : ℕ) (route one : Route) (parts : List (List ℕ × List ℕ)) (asked : List ℕ → Query) → route ≡ one
    → ((any : ℕ) (body : List ℕ) → asked body ≡ asked_by_put any one parts body) → (body : List ℕ) → asked body ≡ asked_by_put society route parts body
asked_at society route one parts asked is all = λ body. all society body ∙ sym (ap (λ (r : Route). asked_by_put society r parts body) is)

pub returns-in-Transmission : goal.returns-in-Transmission
returns-in-Transmission c = record { asks = asked_at c.args.society c.args.route _ (parts_of c.args.params.now) _ c.in-Transmission.is c.put_of_transmission.ensures.asks }

pub returns-in-Segment : goal.returns-in-Segment
returns-in-Segment c = record { asks = asked_at c.args.society c.args.route _ (parts_of c.args.params.now) _ c.in-Segment.is c.put_of_segment.ensures.asks }

pub returns-in-Return : goal.returns-in-Return
returns-in-Return c = record { asks = asked_at c.args.society c.args.route _ (parts_of c.args.params.now) _ c.in-Return.is c.put_of_return.ensures.asks }

pub returns-in-Pool : goal.returns-in-Pool
returns-in-Pool c = record { asks = asked_at c.args.society c.args.route _ (parts_of c.args.params.now) _ c.in-Pool.is c.put_of_pool.ensures.asks }
