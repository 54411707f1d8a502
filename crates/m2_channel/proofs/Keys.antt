-- Keys, the messages of a key, and the first ones of a list.
use Rattle.std.proofs.Common.{◌≡◌, Bool, true, false, ◌==◌, if◌then◌else◌, List, [], ◌∷◌, ◌++◌, length, slice_get, Some, refl, sym, ap, subst, ◌∙◌, append-nil, append_assoc}
use Rattle.std.proofs.lemmas.Bool.{eqb-true, eq-eqb, and_parts}
use Rattle.std.proofs.lemmas.Option.{none-some, same_Some}
use Rattle.m2_dispatch.specs.Heard.{is_key, is_path}
use Rattle.m2_dispatch.specs.m2_message.Message.{Content, unnumbered}
use Rattle.m2_dispatch.specs.m2_policy.declared.path.Key.{Key}
use Rattle.m2_dispatch.specs.m2_policy.declared.path.Path.{Path}
use Rattle.m2_dispatch.specs.m2_policy.declared.path.Path.TheVariants.{Fast, Queued}
use Rattle.m2_never_reset.specs.Order.{AreFirstOf}
use Rattle.m2_channel.specs.Channel.{KeyedMessage, of_key, keyed, IsNextOf}
use Rattle.m2_channel.specs.ChannelLaws.{ComeInOrder}
use Rattle.m2_dispatch.proofs.m2_lemmas.Booleans.{from_false_true}

-- ---- keys

pub same_path : (p q : Path) → is_path p q ≡ true → p ≡ q
same_path Fast Fast e = refl
same_path Queued Queued e = refl
same_path Fast Queued e = from_false_true e
same_path Queued Fast e = from_false_true e

path_self : (p : Path) → is_path p p ≡ true
path_self Fast = refl
path_self Queued = refl

pub same_key : (k l : Key) → is_key k l ≡ true → k ≡ l
same_key k l e =
    let parts = and_parts (k.priority == l.priority) (is_path k.path l.path) e in
    rw (eqb-true k.priority l.priority parts.0, same_path k.path l.path parts.1) refl

pub key_self : (k : Key) → is_key k k ≡ true
key_self k = rw (eq-eqb k.priority k.priority refl, path_self k.path) refl

-- ---- the messages of a key

pub of_key-append : (key : Key) (xs ys : List KeyedMessage) → of_key key (xs ++ ys) ≡ of_key key xs ++ of_key key ys
of_key-append key [] ys = refl
of_key-append key (x ∷ xs) ys = at (is_key x.key key) (of_key-append key xs ys)
  where
    at : (b : Bool) → of_key key (xs ++ ys) ≡ of_key key xs ++ of_key key ys →
        (if b then x.message ∷ of_key key (xs ++ ys) else of_key key (xs ++ ys)) ≡ (if b then x.message ∷ of_key key xs else of_key key xs) ++ of_key key ys
    at true e = ap (λ l. x.message ∷ l) e
    at false e = e

-- ---- the first ones

slice_at : {X : Type 0} (done more : List X) → slice_get (done ++ more) (length done) ≡ slice_get more 0
slice_at [] more = refl
slice_at (x ∷ done) more = slice_at done more

head_is : {X : Type 0} (more : List X) (x : X) → slice_get more 0 ≡ Some x → (rest : List X) × (more ≡ x ∷ rest)
head_is [] x e = absurd (none-some x e)
head_is (y ∷ rest) x e = (rest, ap (λ z. z ∷ rest) (same_Some y x e))

pub one_more : (done all : List Content) (m : Content) → AreFirstOf done all → slice_get all (length done) ≡ Some m → AreFirstOf (done ++ m ∷ []) all
one_more done all m (more, e) next =
    let it = head_is more m (sym (slice_at done more) ∙ ap (λ l. slice_get l (length done)) (sym e) ∙ next) in
    (it.0, e ∙ ap (λ l. done ++ l) it.1 ∙ sym (append_assoc done (m ∷ []) it.0))

-- and the other way round
pub next_is : (done all : List Content) (m : Content) → AreFirstOf (done ++ m ∷ []) all → slice_get all (length done) ≡ Some m
next_is done all m (more, e) =
    ap (λ l. slice_get l (length done)) (e ∙ append_assoc done (m ∷ []) more) ∙ slice_at done (m ∷ more)

pub first_of_first : (a b c : List Content) → AreFirstOf a b → AreFirstOf b c → AreFirstOf a c
first_of_first a b c (more, e) (rest, g) = (more ++ rest, g ∙ ap (λ l. l ++ rest) e ∙ append_assoc a more rest)

-- ---- of each key

pub in_order_over : (a b c : List KeyedMessage) → ComeInOrder a b → ComeInOrder b c → ComeInOrder a c
in_order_over a b c h k key = first_of_first (of_key key a) (of_key key b) (of_key key c) (h key) (k key)

-- what lies behind changes nothing
pub in_order_behind : (some all more : List KeyedMessage) → ComeInOrder some all → ComeInOrder some (all ++ more)
in_order_behind some all more h key =
    first_of_first (of_key key some) (of_key key all) (of_key key (all ++ more)) (h key) (of_key key more, of_key-append key all more)

-- the next one of its key
pub in_order_next : (done all : List KeyedMessage) (key : Key) (m : Content) → ComeInOrder done all → IsNextOf key m done all →
    ComeInOrder (done ++ keyed key m ∷ []) all
in_order_next done all key m h next other =
    subst (λ l. AreFirstOf l (of_key other all)) (sym (of_key-append other done (keyed key m ∷ []))) (at (is_key key other) refl)
  where
    at : (b : Bool) → is_key key other ≡ b → AreFirstOf (of_key other done ++ (if b then unnumbered m ∷ [] else [])) (of_key other all)
    at true e =
        one_more (of_key other done) (of_key other all) (unnumbered m) (h other)
        (subst (λ k. slice_get (of_key k all) (length (of_key k done)) ≡ Some (unnumbered m)) (same_key key other e) next)
    at false e = subst (λ l. AreFirstOf l (of_key other all)) (sym (append-nil (of_key other done))) (h other)
