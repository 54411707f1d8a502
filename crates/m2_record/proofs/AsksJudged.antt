-- The asks that a journal has judged on a socket, one entry at a time.
use Rattle.std.proofs.Common.{◌≡◌, Bool, true, false, List, [], ◌∷◌, ◌++◌, refl, sym, ap, ◌∙◌, cond, map, append_assoc}
use Rattle.std.specs.List.{filter}
use Rattle.std.proofs.lemmas.List.{map-append}
use Rattle.std.proofs.lemmas.List.Elements.{filter-append}
use Rattle.m2_fabric.specs.declared.socket.SocketId.{SocketId}
use Rattle.m2_fabric.specs.Sockets.{same_socket}
use Rattle.m2_journal.specs.declared.entry.Entry.{Entry}
use Rattle.m2_journal.specs.declared.entry.Entry.TheVariants as entry
use Rattle.m2_journal.specs.declared.entry.JudgedItem.{JudgedItem}
use Rattle.m2_journal.specs.Lawful.{judged_on}
use Rattle.m2_journal.specs.State.{Judgement}
use Rattle.m2_record.specs.AsksJudged.{judged_by}
use Rattle.m2_record.specs.TakenTrails.{judgements_in}

at_socket : (b : Bool) (j : Judgement) (js : List Judgement) → map (λ (x : Judgement). x.item) (cond b (j ∷ js) js) ≡ cond b (j.item ∷ []) [] ++ map (λ (x : Judgement). x.item) js
at_socket true j js = refl
at_socket false j js = refl

-- what a journal has judged on a socket is what its first entry has, and what those behind it have
judged_more : (socket : SocketId) (e : Entry) (journal : List Entry) → judged_on socket (judgements_in (e ∷ journal)) ≡ judged_by socket e ++ judged_on socket (judgements_in journal)
judged_more socket (entry.Judged k ask number answer) journal =
    at_socket (same_socket socket k) (record { socket = k; item = record { ask = ask; answer = answer } }) (filter (λ (j : Judgement). same_socket socket j.socket) (judgements_in journal))
judged_more socket _ journal = refl

-- behind what an entry has judged is what the rest has
pub behind_more : (socket : SocketId) (e : Entry) (journal : List Entry) (asks left rest : List JudgedItem) → asks ≡ judged_by socket e ++ left → left ≡ judged_on socket (judgements_in journal) ++ rest →
    asks ≡ judged_on socket (judgements_in (e ∷ journal)) ++ rest
behind_more socket e journal asks left rest first more =
    first ∙ ap (λ l. judged_by socket e ++ l) more ∙ sym (append_assoc (judged_by socket e) (judged_on socket (judgements_in journal)) rest)
    ∙ ap (λ l. l ++ rest) (sym (judged_more socket e journal))

-- what was judged on a socket among some and then others
pub judged_append : (k : SocketId) (xs ys : List Judgement) → judged_on k (xs ++ ys) ≡ judged_on k xs ++ judged_on k ys
judged_append k xs ys =
    let here : Judgement → Bool = λ j. same_socket k j.socket in
    ap (map (λ (j : Judgement). j.item)) (filter-append here xs ys) ∙ map-append (λ (j : Judgement). j.item) (filter here xs) (filter here ys)
