use Rattle.std.proofs.Common.{◌≡◌, ◌+◌, ◌-◌, ◌≤◌, IsTrue, take, length, vec_len, vec_capacity}
use Rattle.society_core.specs.Runs.{AppendsRun}
use Rattle.society_core.specs.State.{StaysClean}
use Rattle.society_core.proofs.runs.run.Given as goal

-- the requests so far were run, and there is room for the answers to the rest
abbrev pub invariant-loop-request : goal.invariant-loop-request
invariant-loop-request g l =
    let state = g.S.Store.state in
    record {
      room : vec_len l.answers + (length l.requests - l.request-index) ≤ vec_capacity l.answers;
      clean : IsTrue (state l.desk).is_clean → IsTrue (state l.initial.desk).is_clean;
      honest : IsTrue (state l.desk).is_honest → IsTrue (state l.initial.desk).is_honest;
      faults : (state l.initial.desk).faults ≤ (state l.desk).faults;
      stays : StaysClean (state l.initial.desk) (state l.desk);
      office : (state l.desk).office ≡ (state l.initial.desk).office;
      ran : AppendsRun (state l.initial.desk).office (state l.initial.desk).book (state l.desk).book (state l.desk).is_clean (take l.request-index l.requests) l.initial.answers.items l.answers.items;
    }
