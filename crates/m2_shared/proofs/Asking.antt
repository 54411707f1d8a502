-- What asking and giving back do at each stage, as it is seen at each gate.
use Rattle.std.proofs.Common.{◌≡◌, ℕ, ◌+◌, ◌-◌, Bool, true, false, Option, Some, None, sym, ap, ◌∙◌, refl, subst, inl, inr, arith}
use Rattle.std.specs.Prelude.{◌⊎◌, ◌==◌, if◌then◌else◌}
use Rattle.std.proofs.lemmas.Bool.{eqb-true, true≢false}
use Rattle.m2_shared.specs.Place.{IsAlone, Place}
use Rattle.m2_shared.specs.More.{Course, Goes, passes, is_full, had_changed, unasked, course}
use Rattle.m2_shared.specs.Stages.{amount, grant_at}
use Rattle.m2_shared.specs.Taking.{IsGivenBack, IsOwned, Taking, taking}
use Rattle.m2_shared.specs.Throttle.{SeenGrant}
use Rattle.m2_shared.specs.declared.bounds.Bounds.{Bounds}
use Rattle.m2_shared.specs.Gates.{Gate, messages, bytes, dispatch, AreHeld, ArePassesOf, AsksPeer, alone, unused, GivesPeer, Keep, Return, entity, gate_of, held, is_gate_of, is_type, pass_in, pass_places, places, size_granted, throttle_in, type_of, words}
use Rattle.m2_shared.specs.declared.more.More.{More}
use Rattle.m2_shared.specs.declared.grants.Grants.{Grants}
use Rattle.m2_shared.specs.declared.peer_grants.PeerGrants.{PeerGrants}
use Rattle.m2_shared.specs.declared.peer_type.PeerType.{PeerType}
use Rattle.m2_shared.specs.declared.peer_type.PeerType.TheVariants.{Mon, Mds, Osd, Client, Mgr}
use Rattle.m2_shared.specs.declared.stage.Stage.{Stage}
use Rattle.m2_shared.specs.declared.stage.Stage.TheVariants.{Messages, Bytes, Dispatch}
use Rattle.m2_shared.specs.declared.throttles.TakePasses.{TakePasses}
use Rattle.m2_shared.specs.declared.throttles.Throttles.{Throttles}

-- ---- at one stage

goes_place : (c : Course) (t : Taking) (n : ℕ) (before after : Option SeenGrant) → Goes c t n before after → t.behind.place ≡ t.before.place
goes_place passes t n (Some g) after k = ap (λ p. p.place) k.1
goes_place passes t n None after k = k.1.place
goes_place (is_full out) t n before after k = k.2.place
goes_place (had_changed seen now) t n before after k = k.2.place
goes_place unasked t n before after k = ap (λ p. p.place) k.1

goes_owned : (c : Course) (t : Taking) (n : ℕ) (before after : Option SeenGrant) → Goes c t n before after → IsOwned t.throttle.place before
    → IsOwned t.throttle.place after
goes_owned passes t n (Some g) after k own = subst (IsOwned t.throttle.place) (sym k.0) own
goes_owned passes t n None after k own = subst (IsOwned t.throttle.place) (sym k.0) refl
goes_owned (is_full out) t n before after k own = subst (IsOwned t.throttle.place) (sym k.1) tt
goes_owned (had_changed seen now) t n before after k own = subst (IsOwned t.throttle.place) (sym k.1) tt
goes_owned unasked t n before after k own = subst (IsOwned t.throttle.place) (sym k.0) own

-- a word that is alone, less what is granted, stays
goes_word : (c : Course) (t : Taking) (n : ℕ) (before after : Option SeenGrant) → Goes c t n before after → IsAlone t.throttle.place
    → t.behind.word + size_granted before ≡ t.before.word + size_granted after
goes_word passes t n (Some g) after k alone = omega (arith, ap (λ p. p.word) k.1, ap size_granted k.0)
goes_word passes t n None after k alone = omega (arith, k.1.word alone, ap size_granted k.0)
goes_word (is_full out) t n before after k alone = omega (arith, k.2.word alone, ap size_granted k.0, ap size_granted k.1)
goes_word (had_changed seen now) t n before after k alone = omega (arith, k.2.word alone, ap size_granted k.0, ap size_granted k.1)
goes_word unasked t n before after k alone = omega (arith, ap (λ p. p.word) k.1, ap size_granted k.0)

back_place : (t : Taking) (g : Option SeenGrant) → IsGivenBack t g → t.behind.place ≡ t.before.place
back_place t (Some g) k = k.place
back_place t None k = ap (λ p. p.place) k

back_word : (t : Taking) (g : Option SeenGrant) → IsGivenBack t g → IsAlone t.throttle.place → t.behind.word ≡ t.before.word - size_granted g
back_word t (Some g) k alone = k.word alone
back_word t None k alone = omega (arith, ap (λ p. p.word) k)

-- ---- gates

type_again : (p : PeerType) → type_of (entity p) ≡ Some p
type_again Mon = refl
type_again Mds = refl
type_again Osd = refl
type_again Client = refl
type_again Mgr = refl

abbrev type_or : PeerType → Option PeerType → PeerType
type_or p (Some x) = x
type_or p None = p

same_type : (a b : PeerType) → is_type a b ≡ true → a ≡ b
same_type a b e = ap (type_or a) (sym (type_again a) ∙ ap type_of (eqb-true (entity a) (entity b) e) ∙ type_again b)

is_own : (p : PeerType) → is_type p p ≡ true
is_own Mon = refl
is_own Mds = refl
is_own Osd = refl
is_own Client = refl
is_own Mgr = refl

-- a gate is that of a stage for peers of a type, or none of theirs
abbrev GateIs : PeerType → Gate → Type 0
GateIs p gate = ((stage : Stage) × (gate ≡ gate_of p stage)) ⊎ (is_gate_of p gate ≡ false)

gate_is : (p : PeerType) (gate : Gate) → GateIs p gate
gate_is p (messages x) = at (is_type p x) refl
  where
    at : (b : Bool) → is_type p x ≡ b → GateIs p (messages x)
    at true e = inl (Messages, ap messages (sym (same_type p x e)))
    at false e = inr e
gate_is p (bytes x) = at (is_type p x) refl
  where
    at : (b : Bool) → is_type p x ≡ b → GateIs p (bytes x)
    at true e = inl (Bytes, ap bytes (sym (same_type p x e)))
    at false e = inr e
gate_is p dispatch = inl (Dispatch, refl)

held_there : (p : PeerType) (g : Grants) (stage : Stage) → held (record { peer = p; grants = g }) (gate_of p stage) ≡ size_granted (grant_at g stage)
held_there p g Messages = ap (λ b. if b then size_granted g.messages else 0) (is_own p)
held_there p g Bytes = ap (λ b. if b then size_granted g.bytes else 0) (is_own p)
held_there p g Dispatch = refl

held_else : (p : PeerType) (g : Grants) (gate : Gate) → is_gate_of p gate ≡ false → held (record { peer = p; grants = g }) gate ≡ 0
held_else p g (messages x) e = ap (λ b. if b then size_granted g.messages else 0) e
held_else p g (bytes x) e = ap (λ b. if b then size_granted g.bytes else 0) e
held_else p g dispatch e = absurd (true≢false e)

-- ---- where words lie

pub place_at : (t : Throttles) (p : TakePasses) (gate : Gate) → ArePassesOf t p → (pass_in p gate).place ≡ places t gate
place_at t p gate e = ap (λ at. at gate) e

pub all_places : (t : Throttles) (p : TakePasses) → ((gate : Gate) → (pass_in p gate).place ≡ places t gate) → ArePassesOf t p
all_places t p at i gate = at gate i

-- where none is shared
pub alone_passes : (b : Bounds) → ArePassesOf (alone b) unused
alone_passes b = all_places (alone b) unused at
  where
    at : (gate : Gate) → (pass_in unused gate).place ≡ places (alone b) gate
    at (messages Mon) = refl
    at (messages Mds) = refl
    at (messages Osd) = refl
    at (messages Client) = refl
    at (messages Mgr) = refl
    at (bytes Mon) = refl
    at (bytes Mds) = refl
    at (bytes Osd) = refl
    at (bytes Client) = refl
    at (bytes Mgr) = refl
    at dispatch = refl

-- ---- asking, at each gate

module _ (answer : More) (size : ℕ) (t : Throttles) (old new : TakePasses) (before after : PeerGrants) (k : AsksPeer answer size t old new before after) where
  abbrev at_stage : Stage → Taking
  at_stage stage = taking (throttle_in t (gate_of before.peer stage)) (pass_in old (gate_of before.peer stage)) (pass_in new (gate_of before.peer stage))

  pub asks_passes : ArePassesOf t old → ArePassesOf t new
  asks_passes of = all_places t new (λ gate. at gate (gate_is before.peer gate))
    where
      at : (gate : Gate) → GateIs before.peer gate → (pass_in new gate).place ≡ places t gate
      at gate (inl (stage, e)) = subst (λ g. (pass_in new g).place ≡ places t g) (sym e) (
          goes_place (course answer stage) (at_stage stage) (amount stage size) (grant_at before.grants stage) (grant_at after.grants stage) (k.asks stage)
          ∙ place_at t old (gate_of before.peer stage) of)
      at gate (inr e) = ap (λ p. p.place) (k.others gate e) ∙ place_at t old gate of

  pub asks_held : AreHeld (places t) before → AreHeld (places t) after
  asks_held own stage = subst (λ p. IsOwned (places t (gate_of p stage)) (grant_at after.grants stage)) (sym k.peer)
      (goes_owned (course answer stage) (at_stage stage) (amount stage size) (grant_at before.grants stage) (grant_at after.grants stage) (k.asks stage) (own stage))

  held_after : (gate : Gate) → held after gate ≡ held (record { peer = before.peer; grants = after.grants }) gate
  held_after gate = ap (λ p. held (record { peer = p; grants = after.grants }) gate) k.peer

  pub asks_word : Keep (held before) (held after) t old new
  asks_word gate alone = at (gate_is before.peer gate)
    where
      at : GateIs before.peer gate → words new gate + held before gate ≡ words old gate + held after gate
      at (inl (stage, e)) =
          let there = gate_of before.peer stage in
          let word = goes_word (course answer stage) (at_stage stage) (amount stage size) (grant_at before.grants stage) (grant_at after.grants stage) (k.asks stage)
          (subst (λ g. IsAlone (places t g)) e alone) in
          let was = held_there before.peer before.grants stage in
          let is = held_after there ∙ held_there before.peer after.grants stage in
          subst (λ g. words new g + held before g ≡ words old g + held after g) (sym e) (omega (arith, word, was, is))
      at (inr e) =
          let word = ap (λ p. p.word) (k.others gate e) in
          let was = held_else before.peer before.grants gate e in
          let is = held_after gate ∙ held_else before.peer after.grants gate e in
          omega (arith, word, was, is)

-- ---- giving back, at each gate

module _ (t : Throttles) (old new : TakePasses) (g : PeerGrants) (k : GivesPeer t old new g) where
  abbrev back_at : Stage → Taking
  back_at stage = taking (throttle_in t (gate_of g.peer stage)) (pass_in old (gate_of g.peer stage)) (pass_in new (gate_of g.peer stage))

  pub gives_passes : ArePassesOf t old → ArePassesOf t new
  gives_passes of = all_places t new (λ gate. at gate (gate_is g.peer gate))
    where
      at : (gate : Gate) → GateIs g.peer gate → (pass_in new gate).place ≡ places t gate
      at gate (inl (stage, e)) = subst (λ x. (pass_in new x).place ≡ places t x) (sym e)
          (back_place (back_at stage) (grant_at g.grants stage) (k.gives stage) ∙ place_at t old (gate_of g.peer stage) of)
      at gate (inr e) = ap (λ p. p.place) (k.others gate e) ∙ place_at t old gate of

  pub gives_word : Return (held g) t old new
  gives_word gate alone = at (gate_is g.peer gate)
    where
      at : GateIs g.peer gate → words new gate ≡ words old gate - held g gate
      at (inl (stage, e)) =
          let there = gate_of g.peer stage in
          let word = back_word (back_at stage) (grant_at g.grants stage) (k.gives stage) (subst (λ x. IsAlone (places t x)) e alone) in
          let was = held_there g.peer g.grants stage in
          subst (λ x. words new x ≡ words old x - held g x) (sym e) (omega (arith, word, was))
      at (inr e) =
          let word = ap (λ p. p.word) (k.others gate e) in
          let was = held_else g.peer g.grants gate e in
          omega (arith, word, was)
