-- What was taken was dispatched.
use Rattle.std.proofs.Common.{◌≡◌, ◌+◌, ◌<◌, ◌∷◌, [], append-nil, arith, length, Some, sym, ap, subst, ◌∙◌}
use Rattle.std.specs.Prelude.{true, false, slice_get, slice_set}
use Rattle.std.proofs.lemmas.Option.{slice_get-get_or}
use Rattle.m2_dispatch.specs.Parcel.{IsOwned}
use Rattle.m2_dispatch.specs.m2_shared.Gates.{places}
use Rattle.m2_dispatch.specs.m2_shared.declared.throttles.Throttles.{Throttles}
use Rattle.m2_mailbox.specs.Passes.{taken_of}
use Rattle.m2_node.specs.Dispatching.{IsServing, LooksAt, ServingNow}
use Rattle.m2_node.proofs.Dispatched.{nothing_dispatched}
use Rattle.m2_node.proofs.Looked.{looks_at}
use Rattle.m2_node.proofs.TakenOut.{some_taken}
use Rattle.m2_node.proofs.serving.Serving.take_one.Goals as goal

pub take-requires : goal.take-requires
take-requires g c =
    let mails = c.args.mails.now in
    let s : ServingNow = record { dispatcher = c.self.inside.dispatcher; gets = c.self.inside.gets.items; first = c.self.inside.first; started = c.self.inside.is_started; watch = c.self.inside.watch } in
    let serving : IsServing mails s = subst (IsServing mails) (sym c.self.view_is) c.requires.serves in
    let m = c.index-mails-self.result in
    let g_ = c.index_mut.result.now in
    let within : c.args.j < length s.gets = subst (λ (t : ServingNow). c.args.j < length t.gets) (sym c.self.view_is) c.requires.place in
    let at_mail : slice_get mails (s.first + c.args.j) ≡ Some m = slice_get-get_or mails (s.first + c.args.j) m (omega (arith, c.if-self-mails.false, c.if-j-mails.false)) ∙ ap Some (sym c.index-mails-self.is) in
    let at_get : slice_get s.gets c.args.j ≡ Some g_ = slice_get-get_or s.gets c.args.j g_ within ∙ ap Some (sym c.index_mut.ensures.value) in
    record { pass = (serving.ours c.args.j m g_ at_mail at_get).0 }

pub dispatch-requires : goal.dispatch-requires
dispatch-requires g c =
    let mails = c.args.mails.now in
    let s : ServingNow = record { dispatcher = c.self.inside.dispatcher; gets = c.self.inside.gets.items; first = c.self.inside.first; started = c.self.inside.is_started; watch = c.self.inside.watch } in
    let serving : IsServing mails s = subst (IsServing mails) (sym c.self.view_is) c.requires.serves in
    let m = c.index-mails-self.result in
    let g_ = c.index_mut.result.now in
    let within : c.args.j < length s.gets = subst (λ (t : ServingNow). c.args.j < length t.gets) (sym c.self.view_is) c.requires.place in
    let at_mail : slice_get mails (s.first + c.args.j) ≡ Some m = slice_get-get_or mails (s.first + c.args.j) m (omega (arith, c.if-self-mails.false, c.if-j-mails.false)) ∙ ap Some (sym c.index-mails-self.is) in
    let at_get : slice_get s.gets c.args.j ≡ Some g_ = slice_get-get_or s.gets c.args.j g_ within ∙ ap Some (sym c.index_mut.ensures.value) in
    subst (λ (t : Throttles). IsOwned (places t) c.in-Some.parcel) (serving.ours c.args.j m g_ at_mail at_get).1 c.in-Some.ensures.belongs

pub returns-in-None-clause-served : goal.returns-in-None-clause-served
returns-in-None-clause-served g c =
    let mails = c.args.mails.now in
    let s : ServingNow = record { dispatcher = c.self.inside.dispatcher; gets = c.self.inside.gets.items; first = c.self.inside.first; started = c.self.inside.is_started; watch = c.self.inside.watch } in
    let serving : IsServing mails s = subst (IsServing mails) (sym c.self.view_is) c.requires.serves in
    let m = c.index-mails-self.result in
    let g_ = c.index_mut.result.now in
    let within : c.args.j < length s.gets = subst (λ (t : ServingNow). c.args.j < length t.gets) (sym c.self.view_is) c.requires.place in
    let at_mail : slice_get mails (s.first + c.args.j) ≡ Some m = slice_get-get_or mails (s.first + c.args.j) m (omega (arith, c.if-self-mails.false, c.if-j-mails.false)) ∙ ap Some (sym c.index-mails-self.is) in
    let at_get : slice_get s.gets c.args.j ≡ Some g_ = slice_get-get_or s.gets c.args.j g_ within ∙ ap Some (sym c.index_mut.ensures.value) in
    some_taken mails s s.dispatcher c.args.j m g_ c.take.new.pass [] at_mail at_get c.take.ensures.pass (c.in-None.ensures.none ∙ sym (append-nil (taken_of g_))) (nothing_dispatched s.dispatcher) serving

pub returns-in-Some-clause-served : goal.returns-in-Some-clause-served
returns-in-Some-clause-served g c =
    let mails = c.args.mails.now in
    let s : ServingNow = record { dispatcher = c.self.inside.dispatcher; gets = c.self.inside.gets.items; first = c.self.inside.first; started = c.self.inside.is_started; watch = c.self.inside.watch } in
    let serving : IsServing mails s = subst (IsServing mails) (sym c.self.view_is) c.requires.serves in
    let m = c.index-mails-self.result in
    let g_ = c.index_mut.result.now in
    let within : c.args.j < length s.gets = subst (λ (t : ServingNow). c.args.j < length t.gets) (sym c.self.view_is) c.requires.place in
    let at_mail : slice_get mails (s.first + c.args.j) ≡ Some m = slice_get-get_or mails (s.first + c.args.j) m (omega (arith, c.if-self-mails.false, c.if-j-mails.false)) ∙ ap Some (sym c.index-mails-self.is) in
    let at_get : slice_get s.gets c.args.j ≡ Some g_ = slice_get-get_or s.gets c.args.j g_ within ∙ ap Some (sym c.index_mut.ensures.value) in
    some_taken mails s c.dispatch.new.self c.args.j m g_ c.take.new.pass (c.in-Some.parcel ∷ []) at_mail at_get c.take.ensures.pass c.in-Some.ensures.taken c.dispatch.ensures serving

pub returns-in-None-clause-looks : goal.returns-in-None-clause-looks
returns-in-None-clause-looks g c =
    let mails = c.args.mails.now in
    let s : ServingNow = record { dispatcher = c.self.inside.dispatcher; gets = c.self.inside.gets.items; first = c.self.inside.first; started = c.self.inside.is_started; watch = c.self.inside.watch } in
    let g_ = c.index_mut.result.now in
    let within : c.args.j < length s.gets = subst (λ (t : ServingNow). c.args.j < length t.gets) (sym c.self.view_is) c.requires.place in
    let at_get : slice_get s.gets c.args.j ≡ Some g_ = slice_get-get_or s.gets c.args.j g_ within ∙ ap Some (sym c.index_mut.ensures.value) in
    subst (λ (t : ServingNow). LooksAt mails c.args.j false t (record s { gets = slice_set s.gets c.args.j c.take.new.pass })) c.self.view_is
    (looks_at mails s s.dispatcher c.args.j false g_ c.take.new.pass at_get (record { looked = c.take.ensures.looked; taken = λ is. absurd (cc is); none = λ _. c.in-None.ensures.none }))

pub returns-in-Some-clause-looks : goal.returns-in-Some-clause-looks
returns-in-Some-clause-looks g c =
    let mails = c.args.mails.now in
    let s : ServingNow = record { dispatcher = c.self.inside.dispatcher; gets = c.self.inside.gets.items; first = c.self.inside.first; started = c.self.inside.is_started; watch = c.self.inside.watch } in
    let g_ = c.index_mut.result.now in
    let within : c.args.j < length s.gets = subst (λ (t : ServingNow). c.args.j < length t.gets) (sym c.self.view_is) c.requires.place in
    let at_get : slice_get s.gets c.args.j ≡ Some g_ = slice_get-get_or s.gets c.args.j g_ within ∙ ap Some (sym c.index_mut.ensures.value) in
    subst (λ (t : ServingNow). LooksAt mails c.args.j true t (record s { dispatcher = c.dispatch.new.self; gets = slice_set s.gets c.args.j c.take.new.pass })) c.self.view_is
    (looks_at mails s c.dispatch.new.self c.args.j true g_ c.take.new.pass at_get
    (record { looked = c.take.ensures.looked; taken = λ _. (c.in-Some.parcel, c.in-Some.ensures.taken); none = λ is. absurd (cc is) }))
