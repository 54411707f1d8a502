-- Senders that work at once, each with its mail.
use Rattle.std.proofs.Common.{◌≡◌, ℕ, zero, suc, ◌<◌, List, [], ◌∷◌, length, map, get_or, arith}
use Rattle.std.specs.Prelude.{slice_get, IfSome}
use Rattle.m2_links_go_on.specs.ClusterTold.{OneByOne}
use Rattle.m2_node.specs.Dispatching.{Mail}
use Rattle.m2_node.specs.Handing.{IsSending, SenderNow}
use Rattle.m2_node.specs.Lists.{SideBySide}

-- what is so of two lists one by one is so of what stands for their items
pub one_map : {X Y : Type 0} (f : X → Y) (how : Y → Y → Type 0) (xs ys : List X) → OneByOne (λ x y. how (f x) (f y)) xs ys → OneByOne how (map f xs) (map f ys)
one_map f how [] [] all = tt
one_map f how [] (y ∷ ys) all = absurd all
one_map f how (x ∷ xs) [] all = absurd all
one_map f how (x ∷ xs) (y ∷ ys) all = (all.0, one_map f how xs ys all.1)

-- each sends with its mail still
pub send_still : (mails : List Mail) (old new : List SenderNow) → length new ≡ length old → SideBySide IsSending mails old →
    ((i : ℕ) (d : SenderNow) → i < length old → IfSome (slice_get mails i) (λ (m : Mail). IsSending m (get_or new i d))) → SideBySide IsSending mails new
send_still [] [] [] e all each = tt
send_still [] [] (t ∷ new) e all each = absurd (omega (arith, e))
send_still [] (s ∷ old) new e all each = absurd all
send_still (m ∷ mails) [] new e all each = absurd all
send_still (m ∷ mails) (s ∷ old) [] e all each = absurd (omega (arith, e))
send_still (m ∷ mails) (s ∷ old) (t ∷ new) e all each = (each 0 t (omega arith), send_still mails old new (omega (arith, e)) all.1 (λ i d less. each (suc i) d (omega (arith, less))))

-- the one at a place with its own
pub sends_at : (mails : List Mail) (senders : List SenderNow) (i : ℕ) (d : SenderNow) → i < length senders → SideBySide IsSending mails senders → IfSome (slice_get mails i) (λ (m : Mail). IsSending m (get_or senders i d))
sends_at [] [] i d less all = absurd (omega (arith, less))
sends_at [] (s ∷ senders) i d less all = absurd all
sends_at (m ∷ mails) [] i d less all = absurd all
sends_at (m ∷ mails) (s ∷ senders) zero d less all = all.0
sends_at (m ∷ mails) (s ∷ senders) (suc i) d less all = sends_at mails senders i d (omega (arith, less)) all.1
