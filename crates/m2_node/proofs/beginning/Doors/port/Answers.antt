-- Nothing was taken out of its inbox.
use Rattle.std.proofs.Common.{◌≡◌, ◌∙◌, ◌+◌, ◌∷◌, Some, refl, ap, subst, sym, arith}
use Rattle.std.specs.Prelude.{slice_get}
use Rattle.m2_handover.specs.Handed.{IsOfNamed}
use Rattle.m2_handover.specs.m2_mailbox.Passes.{IsGetPassOf, looks_of, taken_of}
use Rattle.m2_node.specs.Begins.{DoorsNow}
use Rattle.m2_node.proofs.DoorsBegin.{new_balanced, port_made, port_there}
use Rattle.m2_node.proofs.beginning.Doors.port.Goals as goal

pub new-requires-clause-ours : goal.new-requires-clause-ours
new-requires-clause-ours g c =
    let bs = g.B.Inboxes.inboxes in
    let b = c.in-Some-inbox._inbox.now in
    let d = c.args.self.now in
    let left = c.next.new.self.rest.items in
    let gets : d.gets ≡ c.in-Some-next.get ∷ left = sym (ap (λ (x : DoorsNow). x.gets) c.self.view_is) ∙ c.in-Some-next.ensures.items in
    let here : slice_get bs c.self.inside.next ≡ Some b = sym c.in-Some-inbox.ensures in
    let at : d.next ≡ c.self.inside.next = sym (ap (λ (x : DoorsNow). x.next) c.self.view_is) in
    let there : slice_get d.inboxes d.next ≡ Some b = ap (λ (x : DoorsNow). slice_get x.inboxes d.next) (sym c.self.view_is) ∙ ap (slice_get bs) at ∙ here in
    let doors = c.requires.doors in
    let full = port_there (slice_get bs) d doors.0 doors.1 doors.2 b c.in-Some-next.get left doors.3 gets there in
    subst (IsOfNamed (λ inbox. IsGetPassOf inbox c.in-Some-next.get)) (sym here) full.gets

pub new-requires-clause-balanced : goal.new-requires-clause-balanced
new-requires-clause-balanced g c =
    let bs = g.B.Inboxes.inboxes in
    let b = c.in-Some-inbox._inbox.now in
    let d = c.args.self.now in
    let left = c.next.new.self.rest.items in
    let gets : d.gets ≡ c.in-Some-next.get ∷ left = sym (ap (λ (x : DoorsNow). x.gets) c.self.view_is) ∙ c.in-Some-next.ensures.items in
    let here : slice_get bs c.self.inside.next ≡ Some b = sym c.in-Some-inbox.ensures in
    let at : d.next ≡ c.self.inside.next = sym (ap (λ (x : DoorsNow). x.next) c.self.view_is) in
    let there : slice_get d.inboxes d.next ≡ Some b = ap (λ (x : DoorsNow). slice_get x.inboxes d.next) (sym c.self.view_is) ∙ ap (slice_get bs) at ∙ here in
    let doors = c.requires.doors in
    let full = port_there (slice_get bs) d doors.0 doors.1 doors.2 b c.in-Some-next.get left doors.3 gets there in
    new_balanced (g.P.Port.seen c.args.port) (taken_of c.in-Some-next.get) (looks_of c.in-Some-next.get) c.args.door c.requires.unused full.nothing_taken c.requires.door

pub returns-clause-doors : goal.returns-clause-doors
returns-clause-doors g c = λ home its rest doors.
    let bs = g.B.Inboxes.inboxes in
    let b = c.in-Some-inbox._inbox.now in
    let d = c.args.self.now in
    let left = c.next.new.self.rest.items in
    let gets : d.gets ≡ c.in-Some-next.get ∷ left = sym (ap (λ (x : DoorsNow). x.gets) c.self.view_is) ∙ c.in-Some-next.ensures.items in
    let here : slice_get bs c.self.inside.next ≡ Some b = sym c.in-Some-inbox.ensures in
    let at : d.next ≡ c.self.inside.next = sym (ap (λ (x : DoorsNow). x.next) c.self.view_is) in
    let there : slice_get d.inboxes d.next ≡ Some b = ap (λ (x : DoorsNow). slice_get x.inboxes d.next) (sym c.self.view_is) ∙ ap (slice_get bs) at ∙ here in
    let follows = ap (λ (x : DoorsNow). x.next) c.self.view_is in
    let next : c.in-Some.next ≡ d.next + 1 = omega (arith, c.in-Some.ensures, follows) in
    port_made (slice_get bs) d home its rest b c.in-Some-next.get left doors gets there _
    (ap (λ (x : DoorsNow). x.inboxes) c.self.view_is) (ap (λ (x : DoorsNow). x.puts) c.self.view_is) refl next
