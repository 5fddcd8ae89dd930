use Rattle.society_closings.proofs.lemmas.cuts.CutLists.{list_here, list_more}
use Rattle.society_closings.proofs.works_by_recording.WorksByRecording.list.Goals as goal

pub returns-clause-more : goal.returns-clause-more
returns-clause-more c = list_more c.args.self.now c.append.new.self c.args.isrc c.args.sender c.args.work c.in_ok-append.ensures

pub returns-clause-listed : goal.returns-clause-listed
returns-clause-listed c = list_here c.args.self.now c.append.new.self c.args.isrc c.args.sender c.args.work c.in_ok-append.ensures
