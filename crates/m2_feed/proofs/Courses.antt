-- The course of a half that is given no replies: it is there, it rests, and what was done before stands in front of it.
use Rattle.std.proofs.Common.{◌≡◌, ◌≢◌, ℕ, zero, suc, ◌+◌, ◌<◌, ◌≤◌, List, [], ◌∷◌, ◌++◌, refl, sym, ap, ◌∙◌, subst, arith}
use Rattle.std.proofs.lemmas.Grind.{flat_map-append}
use Rattle.m2_control.specs.declared.control.Control.{Control}
use Rattle.m2_handshake.specs.Course.{course_move, Event, silent, wrote, asked, failed, replied, Step, rests, goes, step_by, step_of, Goes, Runs, IsRested, text_in, text_of, replies_in, replies_of, Course, course_of, steps_left}
use Rattle.m2_handshake.specs.Moves.{Move, stays, quiet, writes, signs, asks, fails}
use Rattle.m2_handshake.specs.Standing.{Standing}
use Rattle.m2_handshake.proofs.Course.{come, ended}
use Rattle.m2_handshake.proofs.Leading.{tells}

record Found (s : Standing) : Type 0 where
  events : List Event
  end : Standing
  runs : Runs events s end
  rested : IsRested end
  no_replies : replies_of events ≡ []

abbrev behind : (s b : Standing) (e : Event) → Goes s e b → replies_in e ≡ [] → Found b → Found s
behind s b e g n x = record {
  events = e ∷ x.events;
  end = x.end;
  runs = (b, g, x.runs);
  rested = x.rested;
  no_replies = ap (λ (l : List Control). l ++ replies_of x.events) n ∙ x.no_replies;
}

no_reply : (c : Control) (s b : Standing) (m : Move) → step_by m s ≡ goes (replied c) b → ⊥
no_reply c s b stays e = cc
no_reply c s b (quiet next) e = cc
no_reply c s b (writes words next) e = cc
no_reply c s b (signs next) e = cc
no_reply c s b (asks ask next) e = cc
no_reply c s b (fails f) e = cc

goes_where : (s : Standing) → ((b : Standing) → steps_left b < steps_left s → Found b) → Found s
goes_where s lesser = at (step_of s) refl
  where
    at : (x : Step) → step_of s ≡ x → Found s
    at rests e = record { events = []; end = s; runs = refl; rested = e; no_replies = refl }
    at (goes silent b) e = behind s b silent e refl (lesser b (tells s silent b e).0.less)
    at (goes (wrote words) b) e = behind s b (wrote words) e refl (lesser b (tells s (wrote words) b e).0.less)
    at (goes (asked ask) b) e = behind s b (asked ask) e refl (lesser b (tells s (asked ask) b e).0.less)
    at (goes (failed f) b) e =
        let there = (tells s (failed f) b e).2 in
        behind s b (failed f) e refl (record { events = []; end = b; runs = refl; rested = ended f b (ap (λ (x : Standing). x.stage) there); no_replies = refl })
    at (goes (replied c) b) e = absurd (no_reply c s b (course_move s) e)

finds : (n : ℕ) (s : Standing) → steps_left s ≤ n → Found s
finds zero s h = goes_where s (λ b l. absurd (omega (arith, h, l)))
finds (suc n) s h = goes_where s (λ b l. finds n b (omega (arith, h, l)))

-- ---- the course that is computed

pub record Ran (s : Standing) (c : Course) : Type 0 where
  pub runs : Runs c.events s c.standing
  pub rested : IsRested c.standing
  pub no_replies : replies_of c.events ≡ []

pub ran-course : (s : Standing) (c : Course) → Ran s c → course_of s [] ≡ c
ran-course s c r = subst (λ cs. course_of s cs ≡ c) r.no_replies (come c.events s c.standing r.runs r.rested)

pub ran : (s : Standing) → Ran s (course_of s [])
ran s =
    let x = finds (steps_left s) s (omega arith) in
    let c : Course = record { events = x.events; standing = x.end } in
    let r : Ran s c = record { runs = x.runs; rested = x.rested; no_replies = x.no_replies } in
    subst (Ran s) (sym (ran-course s c r)) r

runs-append : (ds es : List Event) (a b c : Standing) → Runs ds a b → Runs es b c → Runs (ds ++ es) a c
runs-append [] es a b c k l = subst (λ x. Runs es x c) (sym k) l
runs-append (d ∷ ds) es a b c k l = (k.0, k.1, runs-append ds es k.0 b c k.2 l)

-- a course from where steps have led goes on behind them
abbrev pub going_on : List Event → Course → Course
going_on ds c = record { events = ds ++ c.events; standing = c.standing }

pub goes-on : (ds : List Event) (a b : Standing) → Runs ds a b → replies_of ds ≡ [] → course_of a [] ≡ going_on ds (course_of b [])
goes-on ds a b k n =
    let r = ran b in
    let c = course_of b [] in
    ran-course a (going_on ds c) (record {
      runs = runs-append ds c.events a b c.standing k r.runs;
      rested = r.rested;
      no_replies = flat_map-append replies_in ds c.events ∙ ap (λ (l : List Control). l ++ replies_of c.events) n ∙ r.no_replies;
    })

pub rested-course : (s : Standing) → IsRested s → course_of s [] ≡ record { events = []; standing = s }
rested-course s o = ran-course s (record { events = []; standing = s }) (record { runs = refl; rested = o; no_replies = refl })

pub texts-append : (ds es : List Event) → text_of (ds ++ es) ≡ text_of ds ++ text_of es
texts-append ds es = flat_map-append text_in ds es

-- ---- the side stays

one-side : (e : Event) (a b : Standing) → Goes a e b → b.side ≡ a.side
one-side silent a b h = (tells a silent b h).0.side
one-side (wrote words) a b h = (tells a (wrote words) b h).0.side
one-side (asked ask) a b h = (tells a (asked ask) b h).0.side
one-side (failed f) a b h = ap (λ (s : Standing). s.side) (tells a (failed f) b h).2
one-side (replied c) a b h = ap (λ (s : Standing). s.side) h.2

pub runs-side : (ds : List Event) (a b : Standing) → Runs ds a b → b.side ≡ a.side
runs-side [] a b k = ap (λ (s : Standing). s.side) (sym k)
runs-side (d ∷ ds) a b k = runs-side ds k.0 b k.2 ∙ one-side d a k.0 k.1
