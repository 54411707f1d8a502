-- How many messages there are of each key, and of all.
use Rattle.std.proofs.Common.{◌≡◌, ℕ, suc, ◌+◌, ◌≤◌, Bool, true, false, if◌then◌else◌, List, [], ◌∷◌, ◌++◌, length, length-append, refl, sym, ap, subst, ◌∙◌, arith, append-nil}
use Rattle.m2_dispatch.specs.Heard.{is_key}
use Rattle.m2_dispatch.specs.m2_message.Message.{Content}
use Rattle.m2_dispatch.specs.m2_policy.declared.path.Key.{Key}
use Rattle.m2_never_reset.specs.Order.{AreFirstOf}
use Rattle.m2_channel.specs.Channel.{KeyedMessage, of_key}
use Rattle.m2_channel.specs.ChannelLaws.{ComeInOrder, DoneIsAllDispatched}
use Rattle.m2_channel.proofs.Keys.{same_key, key_self}

abbrev count_of : Key → List KeyedMessage → ℕ
count_of key xs = length (of_key key xs)

abbrev one_if : Bool → ℕ
one_if true = 1
one_if false = 0

counted : (key : Key) (x : KeyedMessage) (xs : List KeyedMessage) → count_of key (x ∷ xs) ≡ one_if (is_key x.key key) + count_of key xs
counted key x xs = at (is_key x.key key)
  where
    at : (b : Bool) → length (if b then x.message ∷ of_key key xs else of_key key xs) ≡ one_if b + length (of_key key xs)
    at true = omega arith
    at false = omega arith

-- one of a key is taken out
pub record TakenOut (key : Key) (xs : List KeyedMessage) : Type 0 where
  pub left : List KeyedMessage
  pub length : length xs ≡ suc (length left)
  pub counts : (other : Key) → count_of other xs ≡ one_if (is_key key other) + count_of other left

take_out : (key : Key) (xs : List KeyedMessage) → 1 ≤ count_of key xs → TakenOut key xs
take_out key [] h = absurd (omega (arith, h))
take_out key (x ∷ xs) h = at (is_key x.key key) refl h (λ some. take_out key xs some)
  where
    at : (b : Bool) → is_key x.key key ≡ b → 1 ≤ length (if b then x.message ∷ of_key key xs else of_key key xs) → (1 ≤ count_of key xs → TakenOut key xs) → TakenOut key (x ∷ xs)
    at true e some on = record {
      left = xs;
      length = refl;
      counts = λ other. subst (λ k. count_of other (x ∷ xs) ≡ one_if (is_key k other) + count_of other xs) (same_key x.key key e) (counted other x xs);
    }
    at false e some on =
        let rest = on some in
        record {
          left = x ∷ rest.left;
          length = ap suc rest.length;
          counts = λ other.
              let here = counted other x xs in
              let there = counted other x rest.left in
              let more = rest.counts other in
              omega (arith, here, there, more);
        }

fewer : (xs ys : List KeyedMessage) → ((key : Key) → count_of key xs ≤ count_of key ys) → length xs ≤ length ys
fewer [] ys h = omega arith
fewer (x ∷ xs) ys h =
    let here = counted x.key x xs in
    let own : one_if (is_key x.key x.key) ≡ 1 = self x.key in
    let most = h x.key in
    let out = take_out x.key ys (omega (arith, here, own, most)) in
    let rest = fewer xs out.left (λ key. let a = counted key x xs in let b = out.counts key in let c = h key in omega (arith, a, b, c)) in
    let long = out.length in
    omega (arith, rest, long)
  where
    self : (k : Key) → one_if (is_key k k) ≡ 1
    self k = rw (key_self k) refl

first_are_fewer : (xs ys : List Content) → AreFirstOf xs ys → length xs ≤ length ys
first_are_fewer xs ys (more, e) = let n = length-append xs more in let m = ap (λ l. length l) e in omega (arith, n, m)

few_of : (some all : List KeyedMessage) → ComeInOrder some all → (key : Key) → count_of key some ≤ count_of key all
few_of some all h key = first_are_fewer (of_key key some) (of_key key all) (h key)

-- where a key has one left, there are more in all
one_left : (some all : List KeyedMessage) (key : Key) (m : Content) → ComeInOrder some all → suc (count_of key some) ≤ count_of key all → suc (length some) ≤ length all
one_left some all key m h more = fewer (record { key = key; message = m } ∷ some) all few
  where
    by_key : (other : Key) (b : Bool) → is_key key other ≡ b → one_if b + count_of other some ≤ count_of other all
    by_key other true e = let it = subst (λ k. suc (count_of k some) ≤ count_of k all) (same_key key other e) more in omega (arith, it)
    by_key other false e = let it = few_of some all h other in omega (arith, it)

    few : (other : Key) → count_of other (record { key = key; message = m } ∷ some) ≤ count_of other all
    few other = let x : KeyedMessage = record { key = key; message = m } in let n = counted other x some in let m = by_key other (is_key key other) refl in omega (arith, n, m)

all_of : (some all : List KeyedMessage) (key : Key) → ComeInOrder some all → length some ≡ length all → AreFirstOf (of_key key some) (of_key key all) →
    of_key key some ≡ of_key key all
all_of some all key h e ([], g) = sym (append-nil (of_key key some)) ∙ sym g
all_of some all key h e (m ∷ more, g) = absurd (let long = one_left some all key m h (one_longer g) in omega (arith, long, e))
  where
    one_longer : of_key key all ≡ of_key key some ++ m ∷ more → suc (count_of key some) ≤ count_of key all
    one_longer g = let n = ap (λ l. length l) g in let k = length-append (of_key key some) (m ∷ more) in omega (arith, n, k)

pub done_is_all : DoneIsAllDispatched
done_is_all some all h = record {
  few = fewer some all (few_of some all h);
  done = λ e key. all_of some all key h e (h key);
}
