use Rattle.std.proofs.Common.{[], append-nil, codes, map, refl, sym}
use Rattle.m2_bytes.proofs.Appending.{behind}
use Rattle.m2_scenario.proofs.Appended.{and_then}
use Rattle.m2_scenario.specs.Report.{name_of}
use Rattle.m2_scenario.specs.Text.{word}
use Rattle.m2_cli.proofs.StatusLines.{and_number}
use Rattle.m2_cli.proofs.status.put_line.Goals as goal

pub returns-in_ok-put_number-in-BadScenario-2 : goal.returns-in_ok-put_number-in-BadScenario-2
returns-in_ok-put_number-in-BadScenario-2 c =
    let old = c.args.text.now.bytes in
    let at = c.in-BadScenario in
    let line = and_number old [] (codes "bad scenario: line ") at.line _ _ _ (sym (append-nil old)) c.from.ensures c.in_ok-put_number-in-BadScenario.ensures in
    let kind = and_number old _ (codes " kind ") at.kind _ _ _ line c.from-in-BadScenario.ensures c.in_ok-put_number-in-BadScenario-2.ensures in
    rw at.is (behind c.push_all.result old _ (codes "\n") _ _ kind c.push_all.ensures)

pub returns-in_ok-push_all-in-BindFault-2 : goal.returns-in_ok-push_all-in-BindFault-2
returns-in_ok-push_all-in-BindFault-2 c =
    let old = c.args.text.now.bytes in
    let at = c.in-BindFault in
    let words = and_then old [] (codes "bind fault: ") _ _ (sym (append-nil old)) c.in_ok-push_all-in-BindFault.ensures.0 in
    let name = and_then old _ (word (map name_of c.args.nodes.now) at.node) _ _ words (rw (← c.name_at.ensures) c.in_ok-push_all-in-BindFault-2.ensures.0) in
    rw at.is (behind c.push_all-in-BindFault-3.result old _ (codes "\n") _ _ name c.push_all-in-BindFault-3.ensures)

pub returns-in_ok-put_number-in-Unfit-3 : goal.returns-in_ok-put_number-in-Unfit-3
returns-in_ok-put_number-in-Unfit-3 c =
    let old = c.args.text.now.bytes in
    let at = c.in-Unfit in
    let from = and_number old [] (codes "unfit: socket ") at.socket.from_port _ _ _ (sym (append-nil old)) c.from-in-Unfit.ensures c.in_ok-put_number-in-Unfit.ensures in
    let to = and_number old _ (codes "-") at.socket.to_port _ _ _ from c.from-in-Unfit-2.ensures c.in_ok-put_number-in-Unfit-2.ensures in
    let place = and_number old _ (codes " place ") at.place _ _ _ to refl c.in_ok-put_number-in-Unfit-3.ensures in
    rw at.is (behind c.push_all-in-Unfit.result old _ (codes "\n") _ _ place c.push_all-in-Unfit.ensures)

pub returns-in_ok-put_number-in-BadFrames-2 : goal.returns-in_ok-put_number-in-BadFrames-2
returns-in_ok-put_number-in-BadFrames-2 c =
    let old = c.args.text.now.bytes in
    let at = c.in-BadFrames in
    let place = and_number old [] (codes "bad frames: place ") at.place _ _ _ (sym (append-nil old)) refl c.in_ok-put_number-in-BadFrames.ensures in
    let fault = and_number old _ (codes " fault ") at.fault _ _ _ place c.from-in-BadFrames.ensures c.in_ok-put_number-in-BadFrames-2.ensures in
    rw at.is (behind c.push_all-in-BadFrames.result old _ (codes "\n") _ _ fault c.push_all-in-BadFrames.ensures)
