-- An opener that is fed what an acceptor writes signs behind its welcome, and what it writes is the front of its greeting.
use Rattle.std.proofs.Common.{◌≡◌, ℕ, ◌<◌, ◌^◌, ◌⊎◌, inl, inr, true, List, [], ◌∷◌, ◌++◌, Option, Some, None, refl, sym, ap, ◌∙◌, subst, arith, append_assoc}
use Rattle.std.proofs.lemmas.Bool.{true≢false}
use Rattle.std.proofs.lemmas.Grind.{flat_map-append}
use Rattle.std.proofs.Math.Seq.{drop-append_seam}
use Rattle.m2_feed.specs.m2_addr.declared.addr.Addr.{Addr}
use Rattle.m2_feed.specs.m2_control.declared.banner.BannerStep.{BannerStep}
use Rattle.m2_feed.specs.m2_control.declared.banner.BannerStep.TheVariants.{Got}
use Rattle.m2_feed.specs.m2_control.declared.control.Control.{Control}
use Rattle.m2_feed.specs.m2_control.Banner.{banner_in, banner_text}
use Rattle.m2_feed.specs.m2_control.Laws.{HasAddrRanges}
use Rattle.m2_feed.proofs.m2_control.Written.{banner_is_read}
use Rattle.m2_feed.specs.m2_frame.Frame.{Parts}
use Rattle.m2_feed.specs.m2_policy.declared.rules.AuthPayload.{AuthPayload}
use Rattle.m2_feed.specs.m2_handshake.declared.stage.Awaited.{Awaited}
use Rattle.m2_feed.specs.m2_handshake.declared.stage.Awaited.TheVariants.{Hello, Done, Signature}
use Rattle.m2_feed.specs.m2_handshake.declared.stage.HalfSide.TheVariants.{Opener}
use Rattle.m2_feed.specs.m2_handshake.declared.stage.Stage.{Stage}
use Rattle.m2_feed.specs.m2_handshake.declared.stage.Stage.TheVariants.{Opening, Banner, Waits, Authed, Asked, Ended, Faulty}
use Rattle.m2_feed.specs.m2_handshake.Course.{Event, silent, wrote, goes, step_by, step_of, course_move, Runs, replies_in, replies_of}
use Rattle.m2_feed.specs.m2_handshake.Greeting.{welcome}
use Rattle.m2_feed.specs.m2_handshake.Laws.{GoesOnTo}
use Rattle.m2_feed.specs.m2_handshake.Moves.{features, after_banner, take_frame, after_reaction, is_authed}
use Rattle.m2_feed.specs.m2_handshake.Reading.{Found}
use Rattle.m2_feed.specs.m2_handshake.Standing.{Standing, fed, fed_at, opener_at_start}
use Rattle.m2_feed.specs.m2_handshake.Steps.{Reaction, says, signed, after_payload, after_frame}
use Rattle.m2_feed.specs.m2_handshake.Texts.{control_parts, frame_text, hello, request, done, signature}
use Rattle.m2_feed.proofs.m2_handshake.Banners.{is_step}
use Rattle.m2_feed.proofs.m2_handshake.Course.{feeds, ways, stands, rests_there}
use Rattle.m2_feed.proofs.m2_handshake.Greeting.{IsSent, frame_found, hello_sent, signature_sent}
use Rattle.m2_feed.proofs.m2_handshake.Reaching.{fed_twice}
use Rattle.m2_bytes_fit.proofs.Sent.{done_sent}

-- ---- its steps

abbrev at : AuthPayload → ℕ → Addr → Stage → Option Parts → List ℕ → Standing
at auth entity dialled stage held rest = record { side = Opener; auth = auth; entity = entity; seen = dialled; stage = stage; peer = None; held = held; rest = rest }

-- the banner is passed, and HELLO is written
greets : (auth : AuthPayload) (entity : ℕ) (dialled : Addr) (more : List ℕ) → step_of (at auth entity dialled Banner None (banner_text features ++ more)) ≡ goes (wrote (frame_text (hello entity dialled))) (at auth entity dialled (Waits Hello) None more)
greets auth entity dialled more =
    let s = at auth entity dialled Banner None (banner_text features ++ more) in
    let b : banner_in (banner_text features ++ more) ≡ Got features 26 = banner_is_read features more (banner_in (banner_text features ++ more)) (omega arith) (omega arith) (is_step (banner_text features ++ more)) in
    ap (λ (x : BannerStep). step_by (after_banner s x) s) b
    ∙ ap (λ (r : List ℕ). goes (wrote (frame_text (hello entity dialled))) (at auth entity dialled (Waits Hello) None r)) (drop-append_seam (banner_text features) more)

takes : (auth : AuthPayload) (entity : ℕ) (dialled : Addr) (awaited : Awaited) (c : Control) (more : List ℕ) → IsSent c →
    step_of (at auth entity dialled (Waits awaited) None (frame_text c ++ more)) ≡ goes silent (at auth entity dialled (Waits awaited) (Some (control_parts c)) more)
takes auth entity dialled awaited c more k =
    let s = at auth entity dialled (Waits awaited) None (frame_text c ++ more) in
    ap (λ (x : Found). step_by (take_frame s x) s) (frame_found c more k)
    ∙ ap (λ (r : List ℕ). goes silent (at auth entity dialled (Waits awaited) (Some (control_parts c)) r)) (drop-append_seam (frame_text c) more)

reads_hello : (auth : AuthPayload) (own : ℕ) (seen : Addr) → IsSent (hello own seen) → after_frame auth Opener Hello (control_parts (hello own seen)) ≡ says Done (frame_text (request auth))
reads_hello auth own seen k = ap (after_payload auth Opener Hello) k.read

reads_done : (auth : AuthPayload) → after_frame auth Opener Done (control_parts done) ≡ says Signature (frame_text signature)
reads_done auth = ap (after_payload auth Opener Done) done_sent.read

reads_signature : (auth : AuthPayload) → after_frame auth Opener Signature (control_parts signature) ≡ signed
reads_signature auth = ap (after_payload auth Opener Signature) signature_sent.read

reacts : (auth : AuthPayload) (entity : ℕ) (dialled : Addr) (awaited : Awaited) (f : Parts) (more : List ℕ) (r : Reaction) → after_frame auth Opener awaited f ≡ r →
    course_move (at auth entity dialled (Waits awaited) (Some f) more) ≡ after_reaction (at auth entity dialled (Waits awaited) (Some f) more) r
reacts auth entity dialled awaited f more r e = ap (after_reaction (at auth entity dialled (Waits awaited) (Some f) more)) e

-- by a welcome, and what follows it, it signs with just that unread
record SignsBehind (auth : AuthPayload) (entity : ℕ) (dialled : Addr) (bytes more : List ℕ) : Type 0 where
  events : List Event
  runs : Runs events (fed (opener_at_start auth entity dialled) bytes) (at auth entity dialled Authed None more)
  replies : replies_of events ≡ []

signs_there : (auth : AuthPayload) (entity own : ℕ) (dialled seen : Addr) (more : List ℕ) → own < 2 ^ 8 → HasAddrRanges seen →
    SignsBehind auth entity dialled (banner_text features ++ (frame_text (hello own seen) ++ (frame_text done ++ (frame_text signature ++ more)))) more
signs_there auth entity own dialled seen more e h =
    let sent = hello_sent own seen e h in
    let third = frame_text signature ++ more in
    let second = frame_text done ++ third in
    let first = frame_text (hello own seen) ++ second in
    let listening = at auth entity dialled (Waits Hello) (Some (control_parts (hello own seen))) second in
    let finishing = at auth entity dialled (Waits Done) (Some (control_parts done)) third in
    let last = at auth entity dialled (Waits Signature) (Some (control_parts signature)) more in
    record {
      events = wrote (banner_text features) ∷ wrote (frame_text (hello entity dialled)) ∷ silent ∷ wrote (frame_text (request auth)) ∷ silent ∷ wrote (frame_text signature) ∷ silent ∷ silent ∷ [];
      runs = (
        at auth entity dialled Banner None (banner_text features ++ first),
        refl,
        (
          at auth entity dialled (Waits Hello) None first,
          greets auth entity dialled first,
          (
            listening,
            takes auth entity dialled Hello (hello own seen) second sent,
            (
              at auth entity dialled (Waits Done) None second,
              ap (λ m. step_by m listening) (reacts auth entity dialled Hello (control_parts (hello own seen)) second (says Done (frame_text (request auth))) (reads_hello auth own seen sent)),
              (
                finishing,
                takes auth entity dialled Done done third done_sent,
                (
                  at auth entity dialled (Waits Signature) None third,
                  ap (λ m. step_by m finishing) (reacts auth entity dialled Done (control_parts done) third (says Signature (frame_text signature)) (reads_done auth)),
                  (
                    last,
                    takes auth entity dialled Signature signature more signature_sent,
                    (
                      at auth entity dialled Authed None more,
                      ap (λ m. step_by m last) (reacts auth entity dialled Signature (control_parts signature) more signed (reads_signature auth)),
                      refl,
                    ),
                  ),
                ),
              ),
            ),
          ),
        ),
      );
      replies = refl;
    }

-- ---- wherever it has come to

grouped : (a b c d more : List ℕ) → (a ++ (b ++ (c ++ d))) ++ more ≡ a ++ (b ++ (c ++ (d ++ more)))
grouped a b c d more = simp (append_assoc)

pub fed_rest : (s : Standing) (more : List ℕ) → is_authed s.stage ≡ true → ((fed s more).stage ≡ s.stage) × ((fed s more).rest ≡ s.rest ++ more) × ((fed s more).side ≡ s.side)
fed_rest s more q = by_stage s.stage refl q
  where
    by_stage : (stage : Stage) → s.stage ≡ stage → is_authed stage ≡ true →
        ((fed s more).stage ≡ s.stage) × ((fed s more).rest ≡ s.rest ++ more) × ((fed s more).side ≡ s.side)
    by_stage Authed e a = (ap (λ x. (fed_at x s more).stage) e, ap (λ x. (fed_at x s more).rest) e, ap (λ x. (fed_at x s more).side) e)
    by_stage Asked e a = (ap (λ x. (fed_at x s more).stage) e, ap (λ x. (fed_at x s more).rest) e, ap (λ x. (fed_at x s more).side) e)
    by_stage Ended e a = (ap (λ x. (fed_at x s more).stage) e, ap (λ x. (fed_at x s more).rest) e, ap (λ x. (fed_at x s more).side) e)
    by_stage Opening e a = absurd (true≢false (sym a))
    by_stage Banner e a = absurd (true≢false (sym a))
    by_stage (Waits w) e a = absurd (true≢false (sym a))
    by_stage (Faulty f) e a = absurd (true≢false (sym a))

-- an opener that is fed the front of a welcome and of what follows it has, where it has signed, the front of what follows
-- unread
pub signs_behind : (auth : AuthPayload) (entity own : ℕ) (dialled seen : Addr) (follows bytes more : List ℕ) (es : List Event) (s : Standing) → own < 2 ^ 8 → HasAddrRanges seen →
    bytes ++ more ≡ welcome own seen ++ follows → Runs es (fed (opener_at_start auth entity dialled) bytes) s → replies_of es ≡ [] → s.side ≡ Opener →
    is_authed s.stage ≡ true → s.rest ++ more ≡ follows
signs_behind auth entity own dialled seen follows bytes more es s small ranges e r none opener q =
    by_way (ways there.events es start end (fed s more) (replies_of es) there.runs all_runs (ap (λ l. l ++ replies_of es) (sym there.replies)))
  where
    whole : List ℕ
    whole = banner_text features ++ (frame_text (hello own seen) ++ (frame_text done ++ (frame_text signature ++ follows)))

    start : Standing
    start = fed (opener_at_start auth entity dialled) whole

    end : Standing
    end = at auth entity dialled Authed None follows

    there : SignsBehind auth entity dialled whole follows
    there = signs_there auth entity own dialled seen follows small ranges

    fed_on : ((fed s more).stage ≡ s.stage) × ((fed s more).rest ≡ s.rest ++ more) × ((fed s more).side ≡ s.side)
    fed_on = fed_rest s more q

    all_runs : Runs es start (fed s more)
    all_runs =
        subst (λ (z : Standing). Runs es z (fed s more))
        (fed_twice (opener_at_start auth entity dialled) bytes more
        ∙ ap (fed (opener_at_start auth entity dialled)) (e ∙ grouped (banner_text features) (frame_text (hello own seen)) (frame_text done) (frame_text signature) follows))
        (feeds es (fed (opener_at_start auth entity dialled) bytes) s more r)

    by_way : GoesOnTo there.events end es (fed s more) ⊎ GoesOnTo es (fed s more) there.events end → s.rest ++ more ≡ follows
    by_way (inl (on, all, runs)) =
        let no_more : replies_of on ≡ [] =
        sym (ap (λ l. l ++ replies_of on) there.replies) ∙ sym (flat_map-append replies_in there.events on) ∙ ap replies_of (sym all) ∙ none in
        let same = stands on end (fed s more) (rests_there.signed end refl refl) runs no_more in
        sym fed_on.1 ∙ ap (λ (z : Standing). z.rest) (sym same.1)
    by_way (inr (on, all, runs)) =
        let no_more : replies_of on ≡ [] =
        sym (ap (λ l. l ++ replies_of on) none) ∙ sym (flat_map-append replies_in es on) ∙ ap replies_of (sym all) ∙ there.replies in
        let same = stands on (fed s more) end (rests_there.signed (fed s more) (fed_on.2 ∙ opener) (ap is_authed fed_on.0 ∙ q)) runs no_more in
        sym fed_on.1 ∙ ap (λ (z : Standing). z.rest) same.1
