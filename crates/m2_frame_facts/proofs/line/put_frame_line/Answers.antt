use Rattle.std.proofs.Common.{◌≡◌, ℕ, List, ◌++◌, OnOk, subst}
use Rattle.m2_frame.specs.Reading.{whole}
use Rattle.m2_frame.specs.View.{parts_seen}
use Rattle.m2_frame_facts.specs.Facts.{facts_of}
use Rattle.m2_frame_facts.specs.Line.{line_of}
use Rattle.m2_frame_facts.proofs.BareFields.{same_told}
use Rattle.m2_frame_facts.proofs.line.put_frame_line.Goals as goal

-- the parts' places in memory don't show in the line
pub returns : goal.returns
unfolding line_of
returns c =
    let same = same_told c.args.style c.args.place c.args.frame.now.tag c.in_ok-facts.facts (facts_of (whole (parts_seen c.args.frame.now))) c.in_ok-facts.ensures in
    subst (λ (t : List ℕ). OnOk c.put_told.result (c.put_told.new.out.bytes ≡ c.args.out.now.bytes ++ t)) same c.put_told.ensures
