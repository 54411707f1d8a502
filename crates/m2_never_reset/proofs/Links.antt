-- Links that are the same, and runs between them.
use Rattle.std.proofs.Common.{◌≡◌, ℕ, ◌+◌, List, Option, Some, None, refl, sym, subst, arith}
use Rattle.m2_journal.specs.m2_fabric.declared.socket.SocketId.{SocketId}
use Rattle.m2_session.specs.declared.session.Phase.{Phase}
use Rattle.m2_session.specs.declared.session.Phase.TheVariants as phase
use Rattle.m2_journal.specs.State.{Feed, SentFrame}
use Rattle.m2_never_reset.specs.Asks.{Asks}
use Rattle.m2_never_reset.specs.Roles.{Role}
use Rattle.m2_never_reset.specs.Link.{Stand, Node, Joined, Link, link}
use Rattle.m2_never_reset.specs.Steps.{Step, Run, done, near_acts}
use Rattle.m2_never_reset.specs.Frames.{to_come}
use Rattle.m2_never_reset.specs.LinkOf.{joined_by, stand_on}

pub plus_none : (n : ℕ) → n ≡ n + 0
plus_none n = omega arith

-- no step, and no trouble
pub stays : (p q : Role) (n : ℕ) (l : ℕ → Link) → Run p q (l n) (l (n + 0))
stays p q n l = subst (λ k. Run p q (l n) (l k)) (plus_none n) (done (l n))

pub same : (p q : Role) (l m : Link) → l ≡ m → Run p q l m
same p q l m e = subst (λ k. Run p q l k) e (done l)

-- one step, from a link that is the first, to a link that is the last
pub one_step : (p q : Role) (first l m last : Link) → first ≡ l → Step p l m → m ≡ last → Run p q first last
one_step p q first l m last e step e' =
    subst (λ k. Run p q k last) (sym e) (subst (λ k. Run p q l k) e' (near_acts l m m step (done m)))

-- links of the same parts
pub links : (x x' : Node) (s s' : Stand) (y y' : Node) (t t' : Stand) (j j' : Joined) (n n' : ℕ) →
    x ≡ x' → s ≡ s' → y ≡ y' → t ≡ t' → j ≡ j' → n ≡ n' → link x s y t j n ≡ link x' s' y' t' j' n'
links x x' s s' y y' t t' j j' n n' e₁ e₂ e₃ e₄ e₅ e₆ = rw (e₁, e₂, e₃, e₄, e₅, e₆) refl

-- feeds that are the same socket to the other side's
pub joined_same : (d d' : Feed) (o : Option Feed) → d'.socket ≡ d.socket → d'.opened ≡ d.opened →
    joined_by (Some d) o ≡ joined_by (Some d') o
joined_same d d' None e h = refl
joined_same d d' (Some c) e h = rw (e, h) refl

pub same_asks : (h k : Asks) → ((socket : SocketId) → h socket ≡ k socket) → h ≡ k
same_asks h k e = λ i socket. e socket i

-- a stand is as before where what is to come is
pub stand_same : (p : Phase) (e : Feed) (mine xs ys : List SentFrame) → to_come e ys ≡ to_come e xs →
    stand_on p e mine ys ≡ stand_on p e mine xs
stand_same phase.Connecting e mine xs ys h = refl
stand_same phase.IdentSent e mine xs ys h = rw h refl
stand_same phase.ReconnectSent e mine xs ys h = rw h refl
stand_same phase.Ready e mine xs ys h = rw h refl
stand_same phase.Absent e mine xs ys h = refl
stand_same phase.Standby e mine xs ys h = refl
stand_same phase.Wait e mine xs ys h = refl
