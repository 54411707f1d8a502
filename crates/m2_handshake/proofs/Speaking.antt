-- What an opener has written is the front of its greeting, whatever it was fed; and one that has signed has written all of it.
use Rattle.std.proofs.Common.{◌≡◌, ℕ, zero, suc, ◌+◌, Bool, true, false, List, [], ◌∷◌, ◌++◌, Option, Some, None, Result, Ok, Err, refl, sym, ap, ◌∙◌, subst, append_assoc, append-nil}
use Rattle.std.specs.Prelude.{◌==◌}
use Rattle.m2_addr.specs.declared.addr.Addr.{Addr}
use Rattle.m2_control.specs.declared.banner.BannerStep.{BannerStep}
use Rattle.m2_control.specs.declared.banner.BannerStep.TheVariants.{Got, NotYet, BadBanner}
use Rattle.m2_control.specs.declared.control.Control.{Control}
use Rattle.m2_control.specs.declared.control.Control.TheVariants as control
use Rattle.m2_control.specs.Banner.{banner_in, banner_text}
use Rattle.m2_frame.specs.Frame.{Parts}
use Rattle.m2_frame.specs.Tags.{tag_number}
use Rattle.m2_policy.specs.declared.rules.AuthPayload.{AuthPayload}
use Rattle.m2_handshake.specs.declared.fault.HalfFault.{HalfFault}
use Rattle.m2_handshake.specs.declared.fault.HalfFault.TheVariants as fault
use Rattle.m2_handshake.specs.declared.stage.Awaited.{Awaited}
use Rattle.m2_handshake.specs.declared.stage.Awaited.TheVariants.{Hello, Request, Done, Signature}
use Rattle.m2_handshake.specs.declared.stage.HalfSide.{HalfSide}
use Rattle.m2_handshake.specs.declared.stage.HalfSide.TheVariants.{Opener}
use Rattle.m2_handshake.specs.declared.stage.Stage.{Stage}
use Rattle.m2_handshake.specs.declared.stage.Stage.TheVariants.{Opening, Banner, Waits, Authed, Asked, Ended, Faulty}
use Rattle.m2_handshake.specs.declared.texts.TheConstants.{CRC}
use Rattle.m2_handshake.specs.Course.{signed_move, course_move_at, course_move, Event, silent, wrote, asked, failed, replied, Step, rests, goes, step_by, step_of, Goes, Runs, text_in, text_of, Next, next_by, next_of, course_by, steps_left, opener_course, Exchange, Reaches, Signs}
use Rattle.m2_handshake.specs.Greeting.{greeting, OpenerGreets}
use Rattle.m2_handshake.specs.Moves.{Move, stays, quiet, writes, signs, asks, fails, features, is_agreed, after_banner, take_frame, after_reaction, answer_held, read_held, is_authed}
use Rattle.m2_handshake.specs.Reading.{Found, begun, refused, framed, found_in, payload_in}
use Rattle.m2_handshake.specs.Standing.{Standing, fed, opener_at_start}
use Rattle.m2_handshake.specs.Steps.{Reaction, says, listens, signed, refuses, awaited_tag, is_unsigned, after, unawaited, after_payload, after_frame}
use Rattle.m2_handshake.specs.Texts.{frame_text, hello, request, signature}
use Rattle.m2_handshake.proofs.Course.{no_more}
use Rattle.m2_handshake.proofs.Leading.{either, Leads, leads, tells, true_isnt_false}
use Rattle.m2_handshake.specs.Laws.{IsPrefix}

-- what it has written by where it stands: it never waits for AUTH_REQUEST, and is never asked
abbrev Said : AuthPayload → ℕ → Addr → Stage → List ℕ → Type 0
Said auth entity dialled Opening words = words ≡ []
Said auth entity dialled Banner words = words ≡ banner_text features
Said auth entity dialled (Waits Hello) words = words ≡ banner_text features ++ frame_text (hello entity dialled)
Said auth entity dialled (Waits Request) words = ⊥
Said auth entity dialled (Waits Done) words = words ≡ (banner_text features ++ frame_text (hello entity dialled)) ++ frame_text (request auth)
Said auth entity dialled (Waits Signature) words = words ≡ ((banner_text features ++ frame_text (hello entity dialled)) ++ frame_text (request auth)) ++ frame_text signature
Said auth entity dialled Authed words = words ≡ ((banner_text features ++ frame_text (hello entity dialled)) ++ frame_text (request auth)) ++ frame_text signature
Said auth entity dialled Asked words = ⊥
Said auth entity dialled Ended words = ⊥
Said auth entity dialled (Faulty f) words = IsPrefix words (greeting auth entity dialled [])

second : (a b c d : List ℕ) → a ++ (b ++ (c ++ (d ++ []))) ≡ (a ++ b) ++ (c ++ (d ++ []))
second a b c d = simp (append_assoc)

third : (a b c d : List ℕ) → a ++ (b ++ (c ++ (d ++ []))) ≡ ((a ++ b) ++ c) ++ (d ++ [])
third a b c d = simp (append_assoc)

fourth : (a b c d : List ℕ) → a ++ (b ++ (c ++ (d ++ []))) ≡ (((a ++ b) ++ c) ++ d) ++ []
fourth a b c d = simp (append_assoc)

at_front : (auth : AuthPayload) (entity : ℕ) (dialled : Addr) (words front more : List ℕ) → words ≡ front → greeting auth entity dialled [] ≡ front ++ more → IsPrefix words (greeting auth entity dialled [])
at_front auth entity dialled words front more e g = (more, g ∙ ap (λ l. l ++ more) (sym e))

-- it is the front of its greeting
front : (auth : AuthPayload) (entity : ℕ) (dialled : Addr) (words : List ℕ) (stage : Stage) → Said auth entity dialled stage words → IsPrefix words (greeting auth entity dialled [])
front auth entity dialled words Opening h = at_front auth entity dialled words [] _ h refl
front auth entity dialled words Banner h = at_front auth entity dialled words _ _ h refl
front auth entity dialled words (Waits Hello) h = at_front auth entity dialled words _ _ h (second (banner_text features) (frame_text (hello entity dialled)) (frame_text (request auth)) (frame_text signature))
front auth entity dialled words (Waits Request) h = absurd h
front auth entity dialled words (Waits Done) h = at_front auth entity dialled words _ _ h (third (banner_text features) (frame_text (hello entity dialled)) (frame_text (request auth)) (frame_text signature))
front auth entity dialled words (Waits Signature) h = at_front auth entity dialled words _ _ h (fourth (banner_text features) (frame_text (hello entity dialled)) (frame_text (request auth)) (frame_text signature))
front auth entity dialled words Authed h = at_front auth entity dialled words _ _ h (fourth (banner_text features) (frame_text (hello entity dialled)) (frame_text (request auth)) (frame_text signature))
front auth entity dialled words Asked h = absurd h
front auth entity dialled words Ended h = absurd h
front auth entity dialled words (Faulty f) h = h

record IsOpener (auth : AuthPayload) (entity : ℕ) (dialled : Addr) (s : Standing) : Type 0 where
  side : s.side ≡ Opener
  writes_auth : s.auth ≡ auth
  named : s.entity ≡ entity
  dials : s.seen ≡ dialled

abbrev Speaks : AuthPayload → ℕ → Addr → Standing → List ℕ → Type 0
Speaks auth entity dialled s words = IsOpener auth entity dialled s × Said auth entity dialled s.stage words

abbrev SpeaksOn : AuthPayload → ℕ → Addr → List ℕ → Move → Type 0
SpeaksOn auth entity dialled words stays = Unit {0}
SpeaksOn auth entity dialled words (quiet b) = Speaks auth entity dialled b words
SpeaksOn auth entity dialled words (writes more b) = Speaks auth entity dialled b (words ++ more)
SpeaksOn auth entity dialled words (signs b) = Speaks auth entity dialled b words
SpeaksOn auth entity dialled words (asks ask b) = ⊥
SpeaksOn auth entity dialled words (fails f) = IsPrefix words (greeting auth entity dialled [])

-- ---- a move

takes_on : (auth : AuthPayload) (entity : ℕ) (dialled : Addr) (words : List ℕ) (s : Standing) (found : Found) → Speaks auth entity dialled s words → SpeaksOn auth entity dialled words (take_frame s found)
takes_on auth entity dialled words s begun k = tt
takes_on auth entity dialled words s (refused f) k = front auth entity dialled words s.stage k.1
takes_on auth entity dialled words s (framed f n) k = (record { side = k.0.side; writes_auth = k.0.writes_auth; named = k.0.named; dials = k.0.dials }, k.1)

abbrev ReactsOn : AuthPayload → ℕ → Addr → List ℕ → Standing → Reaction → Type 0
ReactsOn auth entity dialled words s r = SpeaksOn auth entity dialled words (after_reaction s r)

hello_on : (auth : AuthPayload) (entity : ℕ) (dialled : Addr) (words : List ℕ) (s : Standing) (c : Control) → IsOpener auth entity dialled s → Said auth entity dialled (Waits Hello) words → ReactsOn auth entity dialled words s (after auth Opener Hello c)
hello_on auth entity dialled words s (control.Hello p) o h = (record { side = o.side; writes_auth = o.writes_auth; named = o.named; dials = o.dials }, ap (λ (l : List ℕ). l ++ frame_text (request auth)) h)
hello_on auth entity dialled words s c o h = front auth entity dialled words (Waits Hello) h

done_on : (auth : AuthPayload) (entity : ℕ) (dialled : Addr) (words : List ℕ) (s : Standing) (c : Control) → IsOpener auth entity dialled s → Said auth entity dialled (Waits Done) words → ReactsOn auth entity dialled words s (after auth Opener Done c)
done_on auth entity dialled words s (control.AuthDone d) o h = either (ReactsOn auth entity dialled words s) (d.mode == CRC) (says Signature (frame_text signature)) (refuses fault.BadAuth)
    (record { side = o.side; writes_auth = o.writes_auth; named = o.named; dials = o.dials }, ap (λ (l : List ℕ). l ++ frame_text signature) h) (front auth entity dialled words (Waits Done) h)
done_on auth entity dialled words s c o h = front auth entity dialled words (Waits Done) h

signature_on : (auth : AuthPayload) (entity : ℕ) (dialled : Addr) (words : List ℕ) (s : Standing) (c : Control) → IsOpener auth entity dialled s → Said auth entity dialled (Waits Signature) words → ReactsOn auth entity dialled words s (after auth Opener Signature c)
signature_on auth entity dialled words s (control.AuthSignature p) o h = either (ReactsOn auth entity dialled words s) (is_unsigned p.signature.bytes) signed (refuses fault.BadSignature)
    (record { side = o.side; writes_auth = o.writes_auth; named = o.named; dials = o.dials }, h) (front auth entity dialled words (Waits Signature) h)
signature_on auth entity dialled words s c o h = front auth entity dialled words (Waits Signature) h

payload_on : (auth : AuthPayload) (entity : ℕ) (dialled : Addr) (words : List ℕ) (s : Standing) (awaited : Awaited) (c : Control) → IsOpener auth entity dialled s → Said auth entity dialled (Waits awaited) words → ReactsOn auth entity dialled words s (after auth Opener awaited c)
payload_on auth entity dialled words s Hello c o h = hello_on auth entity dialled words s c o h
payload_on auth entity dialled words s Request c o h = absurd h
payload_on auth entity dialled words s Done c o h = done_on auth entity dialled words s c o h
payload_on auth entity dialled words s Signature c o h = signature_on auth entity dialled words s c o h

read_on : (auth : AuthPayload) (entity : ℕ) (dialled : Addr) (words : List ℕ) (s : Standing) (awaited : Awaited) (r : Result Control HalfFault) → IsOpener auth entity dialled s → Said auth entity dialled (Waits awaited) words →
    ReactsOn auth entity dialled words s (after_payload auth Opener awaited r)
read_on auth entity dialled words s awaited (Ok c) o h = payload_on auth entity dialled words s awaited c o h
read_on auth entity dialled words s awaited (Err f) o h = front auth entity dialled words (Waits awaited) h

frame_on : (auth : AuthPayload) (entity : ℕ) (dialled : Addr) (words : List ℕ) (s : Standing) (awaited : Awaited) (f : Parts) → IsOpener auth entity dialled s → Said auth entity dialled (Waits awaited) words →
    ReactsOn auth entity dialled words s (after_frame auth Opener awaited f)
frame_on auth entity dialled words s awaited f o h = either (ReactsOn auth entity dialled words s) (f.tag == tag_number (awaited_tag awaited))
    (after_payload auth Opener awaited (payload_in (awaited_tag awaited) f.first)) (refuses (unawaited awaited f.tag))
    (read_on auth entity dialled words s awaited (payload_in (awaited_tag awaited) f.first) o h) (front auth entity dialled words (Waits awaited) h)

held_on : (auth : AuthPayload) (entity : ℕ) (dialled : Addr) (words : List ℕ) (s : Standing) (awaited : Awaited) (held : Option Parts) → s.stage ≡ Waits awaited → IsOpener auth entity dialled s → Said auth entity dialled (Waits awaited) words →
    SpeaksOn auth entity dialled words (answer_held s awaited held)
held_on auth entity dialled words s awaited (Some f) q o h = subst (λ (side : HalfSide). ReactsOn auth entity dialled words s (after_frame s.auth side awaited f)) (sym o.side)
    (subst (λ (a : AuthPayload). ReactsOn auth entity dialled words s (after_frame a Opener awaited f)) (sym o.writes_auth) (frame_on auth entity dialled words s awaited f o h))
held_on auth entity dialled words s awaited None q o h = takes_on auth entity dialled words s (found_in s.rest) (o, subst (λ (stage : Stage). Said auth entity dialled stage words) (sym q) h)

banner_on : (auth : AuthPayload) (entity : ℕ) (dialled : Addr) (words : List ℕ) (s : Standing) (b : BannerStep) → IsOpener auth entity dialled s → Said auth entity dialled Banner words → SpeaksOn auth entity dialled words (after_banner s b)
banner_on auth entity dialled words s (Got b n) o h = either (SpeaksOn auth entity dialled words) (is_agreed b) _ (fails fault.BannerFeatures) (
  record { side = o.side; writes_auth = o.writes_auth; named = o.named; dials = o.dials },
  ap (λ (l : List ℕ). l ++ frame_text (hello s.entity s.seen)) h ∙ ap (λ (e : ℕ). banner_text features ++ frame_text (hello e s.seen)) o.named ∙ ap (λ (a : Addr). banner_text features ++ frame_text (hello entity a)) o.dials,
) (front auth entity dialled words Banner h)
banner_on auth entity dialled words s NotYet o h = tt
banner_on auth entity dialled words s BadBanner o h = front auth entity dialled words Banner h

move_on : (auth : AuthPayload) (entity : ℕ) (dialled : Addr) (words : List ℕ) (stage : Stage) (s : Standing) → s.stage ≡ stage → IsOpener auth entity dialled s → Said auth entity dialled stage words → SpeaksOn auth entity dialled words (course_move_at stage s)
move_on auth entity dialled words Opening s q o h = (record { side = o.side; writes_auth = o.writes_auth; named = o.named; dials = o.dials }, ap (λ (l : List ℕ). l ++ banner_text features) h)
move_on auth entity dialled words Banner s q o h = banner_on auth entity dialled words s (banner_in s.rest) o h
move_on auth entity dialled words (Waits awaited) s q o h = held_on auth entity dialled words s awaited s.held q o h
move_on auth entity dialled words Authed s q o h = subst (λ (side : HalfSide). SpeaksOn auth entity dialled words (signed_move side (read_held s s.held))) (sym o.side) tt
move_on auth entity dialled words Asked s q o h = absurd h
move_on auth entity dialled words Ended s q o h = absurd h
move_on auth entity dialled words (Faulty f) s q o h = tt

-- ---- a step

abbrev SpeaksStep : AuthPayload → ℕ → Addr → List ℕ → Step → Type 0
SpeaksStep auth entity dialled words rests = Unit {0}
SpeaksStep auth entity dialled words (goes e b) = Speaks auth entity dialled b (words ++ text_in e)

no_words : (auth : AuthPayload) (entity : ℕ) (dialled : Addr) (words : List ℕ) (b : Standing) → Speaks auth entity dialled b words → Speaks auth entity dialled b (words ++ [])
no_words auth entity dialled words b k = (k.0, subst (Said auth entity dialled b.stage) (sym (append-nil words)) k.1)

step_on : (auth : AuthPayload) (entity : ℕ) (dialled : Addr) (words : List ℕ) (a : Standing) (m : Move) → IsOpener auth entity dialled a → SpeaksOn auth entity dialled words m → SpeaksStep auth entity dialled words (step_by m a)
step_on auth entity dialled words a stays o k = tt
step_on auth entity dialled words a (quiet b) o k = no_words auth entity dialled words b k
step_on auth entity dialled words a (writes more b) o k = k
step_on auth entity dialled words a (signs b) o k = no_words auth entity dialled words b k
step_on auth entity dialled words a (asks ask b) o k = absurd k
step_on auth entity dialled words a (fails f) o k = (record { side = o.side; writes_auth = o.writes_auth; named = o.named; dials = o.dials }, subst (λ l. IsPrefix l (greeting auth entity dialled [])) (sym (append-nil words)) k)

own_on : (auth : AuthPayload) (entity : ℕ) (dialled : Addr) (words : List ℕ) (e : Event) (a b : Standing) → Speaks auth entity dialled a words → step_of a ≡ goes e b → Speaks auth entity dialled b (words ++ text_in e)
own_on auth entity dialled words e a b k g = subst (SpeaksStep auth entity dialled words) g (step_on auth entity dialled words a (course_move a) k.0 (move_on auth entity dialled words a.stage a refl k.0 k.1))

goes_on : (auth : AuthPayload) (entity : ℕ) (dialled : Addr) (words : List ℕ) (e : Event) (a b : Standing) → Speaks auth entity dialled a words → Goes a e b → Speaks auth entity dialled b (words ++ text_in e)
goes_on auth entity dialled words silent a b k g = own_on auth entity dialled words silent a b k g
goes_on auth entity dialled words (wrote more) a b k g = own_on auth entity dialled words (wrote more) a b k g
goes_on auth entity dialled words (asked ask) a b k g = own_on auth entity dialled words (asked ask) a b k g
goes_on auth entity dialled words (failed f) a b k g = own_on auth entity dialled words (failed f) a b k g
goes_on auth entity dialled words (replied c) a b k g = absurd (subst (λ (stage : Stage). Said auth entity dialled stage words) g.0 k.1)

runs_on : (auth : AuthPayload) (entity : ℕ) (dialled : Addr) (words : List ℕ) (es : List Event) (a b : Standing) → Speaks auth entity dialled a words → Runs es a b → Speaks auth entity dialled b (words ++ text_of es)
runs_on auth entity dialled words [] a b k same = no_words auth entity dialled words b (subst (λ (s : Standing). Speaks auth entity dialled s words) same k)
runs_on auth entity dialled words (e ∷ es) a b k (m, g, r) =
    let there = runs_on auth entity dialled (words ++ text_in e) es m b (goes_on auth entity dialled words e a m k g) r in
    (there.0, subst (Said auth entity dialled b.stage) (append_assoc words (text_in e) (text_of es)) there.1)

-- ---- all that it writes

pub text_is_front : (auth : AuthPayload) (entity : ℕ) (dialled : Addr) (bytes : List ℕ) (es : List Event) (s : Standing) → Runs es (fed (opener_at_start auth entity dialled) bytes) s →
    IsPrefix (text_of es) (greeting auth entity dialled [])
text_is_front auth entity dialled bytes es s r =
    let k = runs_on auth entity dialled [] es (fed (opener_at_start auth entity dialled) bytes) s (record { side = refl; writes_auth = refl; named = refl; dials = refl }, refl) r in
    front auth entity dialled (text_of es) s.stage k.1

grouped : (a b c d : List ℕ) → ((a ++ b) ++ c) ++ d ≡ a ++ (b ++ (c ++ (d ++ [])))
grouped a b c d = simp (append_assoc, append-nil)

authed_said : (auth : AuthPayload) (entity : ℕ) (dialled : Addr) (words : List ℕ) (stage : Stage) → is_authed stage ≡ true → Said auth entity dialled stage words → words ≡ greeting auth entity dialled []
authed_said auth entity dialled words Opening q h = absurd (true_isnt_false (sym q))
authed_said auth entity dialled words Banner q h = absurd (true_isnt_false (sym q))
authed_said auth entity dialled words (Waits awaited) q h = absurd (true_isnt_false (sym q))
authed_said auth entity dialled words Authed q h = h ∙ grouped (banner_text features) (frame_text (hello entity dialled)) (frame_text (request auth)) (frame_text signature)
authed_said auth entity dialled words Asked q h = absurd h
authed_said auth entity dialled words Ended q h = absurd h
authed_said auth entity dialled words (Faulty f) q h = absurd (true_isnt_false (sym q))

spoken : (auth : AuthPayload) (entity : ℕ) (dialled : Addr) (bytes : List ℕ) (es : List Event) (s : Standing) → Runs es (fed (opener_at_start auth entity dialled) bytes) s → is_authed s.stage ≡ true → text_of es ≡ greeting auth entity dialled []
spoken auth entity dialled bytes es s r q =
    let k = runs_on auth entity dialled [] es (fed (opener_at_start auth entity dialled) bytes) s (record { side = refl; writes_auth = refl; named = refl; dials = refl }, refl) r in
    authed_said auth entity dialled (text_of es) s.stage q k.1

pub authed_greets : (auth : AuthPayload) (entity : ℕ) (dialled : Addr) (x : Exchange) (s : Standing) → Reaches (opener_at_start auth entity dialled) x s → is_authed s.stage ≡ true → x.text ≡ greeting auth entity dialled []
authed_greets auth entity dialled x s r q = sym r.text ∙ spoken auth entity dialled x.bytes r.events s r.runs q

signs_greets : (auth : AuthPayload) (entity : ℕ) (dialled : Addr) (x : Exchange) (s : Standing) → Signs (opener_at_start auth entity dialled) x s → x.text ≡ greeting auth entity dialled []
signs_greets auth entity dialled x s (mid, r, h) =
    let words : List ℕ = text_of r.events in
    let k = runs_on auth entity dialled [] r.events (fed (opener_at_start auth entity dialled) x.bytes) mid (record { side = refl; writes_auth = refl; named = refl; dials = refl }, refl) r.runs in
    let j : Speaks auth entity dialled s words = subst (SpeaksOn auth entity dialled words) h (move_on auth entity dialled words mid.stage mid refl k.0 k.1) in
    let l : Leads mid (signs s) = subst (Leads mid) h (leads mid) in
    sym r.text ∙ authed_said auth entity dialled words s.stage l.3 j.1

-- ---- the course that is computed

own_goes : (e : Event) (a b : Standing) → step_of a ≡ goes e b → Goes a e b
own_goes silent a b h = h
own_goes (wrote words) a b h = h
own_goes (asked ask) a b h = h
own_goes (failed f) a b h = h
own_goes (replied c) a b h = absurd (tells a (replied c) b h)

abbrev IsRun : ℕ → Next → Standing → Type 0
IsRun n next a = Runs (course_by n next a).events a (course_by n next a).standing

course_step : (n : ℕ) (a : Standing) (step : Step) → step_of a ≡ step → ((b : Standing) → IsRun n (next_of b []) b) → IsRun (suc n) (next_by step a []) a
course_step n a rests q ih = subst (λ (x : Next). IsRun (suc n) x a) (sym (no_more a.stage a)) refl
course_step n a (goes e b) q ih = (b, own_goes e a b q, ih b)

course_runs : (n : ℕ) (a : Standing) → IsRun n (next_of a []) a
course_runs zero a = refl
course_runs (suc n) a = course_step n a (step_of a) refl (course_runs n)

course_greets : (auth : AuthPayload) (entity : ℕ) (dialled : Addr) (bytes : List ℕ) → is_authed (opener_course auth entity dialled bytes).standing.stage ≡ true → text_of (opener_course auth entity dialled bytes).events ≡ greeting auth entity dialled []
course_greets auth entity dialled bytes q =
    let begin = fed (opener_at_start auth entity dialled) bytes in
    spoken auth entity dialled bytes (opener_course auth entity dialled bytes).events (opener_course auth entity dialled bytes).standing (course_runs (steps_left begin + 0) begin) q

pub opener_greets : OpenerGreets
opener_greets = record { signs = signs_greets; signed = authed_greets; computed = course_greets }
