-- Nothing was put into its inbox.
use Rattle.std.proofs.Common.{◌≡◌, ◌∙◌, ◌+◌, ◌∷◌, Some, ap, subst, sym, arith}
use Rattle.std.specs.Prelude.{slice_get}
use Rattle.m2_handover.specs.Handed.{IsOfNamed}
use Rattle.m2_handover.specs.Way.{WayNow}
use Rattle.m2_handover.specs.m2_mailbox.Passes.{IsPutPassOf, owner_of}
use Rattle.m2_node.specs.Begins.{DoorsNow}
use Rattle.m2_node.specs.Rooms.{homes_from, thread_of}
use Rattle.m2_node.proofs.DoorsBegin.{same_home, way_found, way_made}
use Rattle.m2_node.proofs.beginning.Doors.way.Goals as goal

pub new-requires-clause-owned : goal.new-requires-clause-owned
new-requires-clause-owned g c =
    let bs = g.B.Inboxes.inboxes in
    let b = c.in-Some-inbox._inbox.now in
    let n = c.in-Some.number in
    let there : slice_get bs n ≡ Some b = sym c.in-Some-inbox.ensures in
    let at : n ≡ c.self.inside.next + c.args.home.center = omega (arith, c.in-Some.ensures) in
    let found = way_found (slice_get bs) c.args.self.now _ c.args.home c.in-Some-next.put c.next.new.self.rest.items b n c.requires c.self.view_is c.in-Some-next.ensures.items at there in
    subst (IsOfNamed (λ inbox. owner_of inbox ≡ c.args.home)) (sym there) (same_home _ c.args.home found.center found.centers)

pub new-requires-clause-ours : goal.new-requires-clause-ours
new-requires-clause-ours g c =
    let bs = g.B.Inboxes.inboxes in
    let b = c.in-Some-inbox._inbox.now in
    let n = c.in-Some.number in
    let there : slice_get bs n ≡ Some b = sym c.in-Some-inbox.ensures in
    let at : n ≡ c.self.inside.next + c.args.home.center = omega (arith, c.in-Some.ensures) in
    subst (IsOfNamed (λ inbox. IsPutPassOf inbox c.in-Some-next.put)) (sym there)
    (way_found (slice_get bs) c.args.self.now _ c.args.home c.in-Some-next.put c.next.new.self.rest.items b n c.requires c.self.view_is c.in-Some-next.ensures.items at there).puts

pub new-requires-clause-whole : goal.new-requires-clause-whole
new-requires-clause-whole g c =
    let bs = g.B.Inboxes.inboxes in
    let b = c.in-Some-inbox._inbox.now in
    let n = c.in-Some.number in
    let there : slice_get bs n ≡ Some b = sym c.in-Some-inbox.ensures in
    let at : n ≡ c.self.inside.next + c.args.home.center = omega (arith, c.in-Some.ensures) in
    (way_found (slice_get bs) c.args.self.now _ c.args.home c.in-Some-next.put c.next.new.self.rest.items b n c.requires c.self.view_is c.in-Some-next.ensures.items at there).whole

pub returns-clause-doors : goal.returns-clause-doors
returns-clause-doors g c = λ rest doors.
    let home = c.args.home in
    let d = c.args.self.now in
    let left = c.next.new.self.rest.items in
    let puts : d.puts ≡ c.in-Some-next.put ∷ left = sym (ap (λ (x : DoorsNow). x.puts) c.self.view_is) ∙ c.in-Some-next.ensures.items in
    way_made (slice_get g.B.Inboxes.inboxes) d (homes_from 0 home.center home.centers) rest (thread_of home) c.in-Some-next.put _ puts
    (ap (λ (x : DoorsNow). x.inboxes) c.self.view_is) (ap (λ (x : DoorsNow). x.gets) c.self.view_is) (ap (λ (x : DoorsNow). x.next) c.self.view_is) doors

pub returns-clause-new : goal.returns-clause-new
returns-clause-new g c =
    let bs = g.B.Inboxes.inboxes in
    let b = c.in-Some-inbox._inbox.now in
    let n = c.in-Some.number in
    let there : slice_get bs n ≡ Some b = sym c.in-Some-inbox.ensures in
    let at : n ≡ c.self.inside.next + c.args.home.center = omega (arith, c.in-Some.ensures) in
    ap (λ (w : WayNow). w.put) c.new.ensures
    ∙ (way_found (slice_get bs) c.args.self.now _ c.args.home c.in-Some-next.put c.next.new.self.rest.items b n c.requires c.self.view_is c.in-Some-next.ensures.items at there).nothing_put
