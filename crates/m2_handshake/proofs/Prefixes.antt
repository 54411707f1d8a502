-- What more bytes and replies change: what was written and used stays, and more comes behind.
use Rattle.std.proofs.Common.{◌≡◌, ◌≢◌, ℕ, ◌⊎◌, inl, inr, false, List, [], ◌∷◌, ◌++◌, length, flat_map, refl, sym, ap, ◌∙◌, subst, arith, append_assoc, append-nil, length-append}
use Rattle.std.proofs.lemmas.Grind.{flat_map-append}
use Rattle.std.proofs.lemmas.List.{nil_from_length}
use Rattle.m2_control.specs.declared.control.Control.{Control}
use Rattle.m2_handshake.specs.declared.fault.HalfFault.{HalfFault}
use Rattle.m2_handshake.specs.declared.stage.Stage.{Stage}
use Rattle.m2_handshake.specs.declared.stage.Stage.TheVariants.{Opening, Banner, Waits, Authed, Asked, Ended, Faulty}
use Rattle.m2_handshake.specs.Course.{Event, silent, wrote, asked, failed, replied, Runs, IsRested, text_in, asks_in, replies_in, text_of, asks_of, replies_of, Exchange, Reaches}
use Rattle.m2_handshake.specs.Laws.{GoesOnTo, IsAhead, MoreWritesMore, Used, UnreadIsTheEnd}
use Rattle.m2_handshake.specs.Standing.{Standing, grown, fed}
use Rattle.m2_handshake.proofs.Course.{ended, grows, feeds, ways, stands, rests_isnt_goes}
use Rattle.m2_handshake.proofs.Leading.{is_faulty, tells}
use Rattle.m2_handshake.proofs.Reaching.{fed_twice}
use Rattle.m2_handshake.proofs.Turns.{fed_stage}

-- ---- what is written

more_text : {X : Type 0} (f : Event → List X) (ds es more : List Event) (l m : List X) → es ≡ ds ++ more → flat_map f ds ≡ l → flat_map f es ≡ m → m ≡ l ++ flat_map f more
more_text f ds es more l m e p q = sym q ∙ ap (flat_map f) e ∙ flat_map-append f ds more ∙ ap (λ k. k ++ flat_map f more) p

goes_on : (s other : Standing) (x y : Exchange) (ds es : List Event) (later : List Control) → text_of ds ≡ x.text → asks_of ds ≡ x.asks → text_of es ≡ y.text → asks_of es ≡ y.asks →
    IsRested other → replies_of es ≡ replies_of ds ++ later → GoesOnTo ds s es other ⊎ GoesOnTo es other ds s → IsAhead x y
goes_on s other x y ds es later t a u b o r (inl w) = record {
  text = (text_of w.0, more_text text_in ds es w.0 x.text y.text w.1 t u);
  asks = (asks_of w.0, more_text asks_in ds es w.0 x.asks y.asks w.1 a b);
}
goes_on s other x y ds es later t a u b o r (inr w) =
    let all : replies_of ds ≡ replies_of es ++ replies_of w.0 = ap (flat_map replies_in) w.1 ∙ flat_map-append replies_in es w.0 in
    let none : replies_of w.0 ≡ [] = nil_from_length (replies_of w.0)
    (omega (arith, ap length all, ap length r, length-append (replies_of es) (replies_of w.0), length-append (replies_of ds) later)) in
    let still = stands w.0 other s o w.2 none in
    let same : es ≡ ds = sym (w.1 ∙ ap (λ l. es ++ l) still.0 ∙ append-nil es) in
    record {
      text = ([], sym u ∙ ap (flat_map text_in) same ∙ t ∙ sym (append-nil x.text));
      asks = ([], sym b ∙ ap (flat_map asks_in) same ∙ a ∙ sym (append-nil x.asks));
    }

pub more_writes_more : MoreWritesMore
more_writes_more begin s other x y r k o (more, b) (later, c) =
    let from = fed begin y.bytes in
    let there : Runs r.events from (fed s more) =
    subst (λ a. Runs r.events a (fed s more)) (fed_twice begin x.bytes more ∙ ap (fed begin) (sym b)) (feeds r.events (fed begin x.bytes) s more r.runs) in
    let given : replies_of k.events ≡ replies_of r.events ++ later = k.replies ∙ c ∙ ap (λ l. l ++ later) (sym r.replies) in
    goes_on (fed s more) other x y r.events k.events later r.text r.asks k.text k.asks o given
    (ways r.events k.events from (fed s more) other later there k.runs given)

-- ---- what is unread

pub faulty_isnt_asked : (f : HalfFault) → Asked ≡ Faulty f → ⊥
faulty_isnt_asked f e = cc

-- from a fault nothing is done
fault_stands : (es : List Event) (a b : Standing) (f : HalfFault) → a.stage ≡ Faulty f → Runs es a b → a ≡ b
fault_stands [] a b f q k = k
fault_stands (silent ∷ es) a b f q k = absurd (rests_isnt_goes silent k.0 (sym (ended f a q) ∙ k.1))
fault_stands (wrote words ∷ es) a b f q k = absurd (rests_isnt_goes (wrote words) k.0 (sym (ended f a q) ∙ k.1))
fault_stands (asked ask ∷ es) a b f q k = absurd (rests_isnt_goes (asked ask) k.0 (sym (ended f a q) ∙ k.1))
fault_stands (failed g ∷ es) a b f q k = absurd (rests_isnt_goes (failed g) k.0 (sym (ended f a q) ∙ k.1))
fault_stands (replied c ∷ es) a b f q k = absurd (faulty_isnt_asked f (sym k.1.0 ∙ q))

behind : (a mid b : Standing) (first rest : List ℕ) → a.rest ≡ first ++ mid.rest → mid.rest ≡ rest ++ b.rest → a.rest ≡ (first ++ rest) ++ b.rest
behind a mid b first rest p q = p ∙ ap (λ l. first ++ l) q ∙ sym (append_assoc first rest b.rest)

runs_used : (es : List Event) (a b : Standing) → ((f : HalfFault) → b.stage ≢ Faulty f) → Runs es a b → (used : List ℕ) × (a.rest ≡ used ++ b.rest)
runs_used [] a b n k = ([], ap (λ (s : Standing). s.rest) k)
runs_used (silent ∷ es) a b n k =
    let l = (tells a silent k.0 k.1).0 in let rest = runs_used es k.0 b n k.2 in (l.used ++ rest.0, behind a k.0 b l.used rest.0 l.before rest.1)
runs_used (wrote words ∷ es) a b n k =
    let l = (tells a (wrote words) k.0 k.1).0 in let rest = runs_used es k.0 b n k.2 in (l.used ++ rest.0, behind a k.0 b l.used rest.0 l.before rest.1)
runs_used (asked ask ∷ es) a b n k =
    let l = (tells a (asked ask) k.0 k.1).0 in let rest = runs_used es k.0 b n k.2 in (l.used ++ rest.0, behind a k.0 b l.used rest.0 l.before rest.1)
runs_used (failed f ∷ es) a b n k =
    let q : k.0.stage ≡ Faulty f = ap (λ (s : Standing). s.stage) (tells a (failed f) k.0 k.1).2 in
    absurd (n f (sym (ap (λ (s : Standing). s.stage) (fault_stands es k.0 b f q k.2)) ∙ q))
runs_used (replied c ∷ es) a b n k =
    let rest = runs_used es k.0 b n k.2 in (rest.0, sym (ap (λ (s : Standing). s.rest) k.1.2) ∙ rest.1)

sound_stage : (stage : Stage) → ((f : HalfFault) → stage ≢ Faulty f) → is_faulty stage ≡ false
sound_stage Opening n = refl
sound_stage Banner n = refl
sound_stage (Waits awaited) n = refl
sound_stage Authed n = refl
sound_stage Asked n = refl
sound_stage Ended n = refl
sound_stage (Faulty f) n = absurd (n f refl)

used : (begin s : Standing) (x : Exchange) → Reaches begin x s → ((f : HalfFault) → s.stage ≢ Faulty f) → Used begin x s
used begin s x r n =
    let whole = runs_used r.events (fed begin x.bytes) s n r.runs in
    let begins : (f : HalfFault) → begin.stage ≢ Faulty f =
    λ f q. n f (sym (ap (λ (t : Standing). t.stage) (fault_stands r.events (fed begin x.bytes) s f (fed_stage begin x.bytes ∙ q) r.runs)) ∙ fed_stage begin x.bytes ∙ q) in
    record {
      bytes = whole.0;
      before = sym (ap (λ (t : Standing). t.rest) (grows begin x.bytes (sound_stage begin.stage begins))) ∙ whole.1;
    }

stays : (begin s : Standing) (x : Exchange) (more : List ℕ) → (u : Used begin x s) → (v : Used begin (record x { bytes = x.bytes ++ more }) (grown more s)) × (v.bytes ≡ u.bytes)
stays begin s x more u = (
  record {
    bytes = u.bytes;
    before = sym (append_assoc begin.rest x.bytes more) ∙ ap (λ l. l ++ more) u.before ∙ append_assoc u.bytes s.rest more;
  },
  refl,
)

pub unread_is_the_end : UnreadIsTheEnd
unread_is_the_end = record { used = used; stays = stays }
