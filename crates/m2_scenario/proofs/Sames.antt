-- The same messages, one for one.
use Rattle.std.proofs.Common.{◌≡◌, suc, List, [], ◌∷◌, length, take, refl, sym, ap, subst, arith}
use Rattle.std.proofs.Math.Seq.{take-length}
use Rattle.m2_message.specs.Message.{Content}
use Rattle.m2_scenario.specs.Order.{AreSame, IsPrefixOf}
use Rattle.m2_scenario.specs.OrderLaws.{EqualMessagesAreTheSame, AllIsAPrefix}

pub equal_are_same : EqualMessagesAreTheSame
equal_are_same [] = tt
equal_are_same (m ∷ ms) = (refl, equal_are_same ms)

-- as many of the one as of the other
pub length-same : (ms ns : List Content) → AreSame ms ns → length ms ≡ length ns
length-same [] [] h = refl
length-same (m ∷ ms) (n ∷ ns) h = ap suc (length-same ms ns h.1)
length-same [] (n ∷ ns) h = absurd h
length-same (m ∷ ms) [] h = absurd h

same_prefix : (ms ns : List Content) → AreSame ms ns → IsPrefixOf ms ns
same_prefix ms ns h =
    let e = length-same ms ns h in
    record { few = omega (arith, e); same = subst (λ ks. AreSame ms ks) (sym (subst (λ k. take k ns ≡ ns) (sym e) (take-length ns))) h }

pub all_prefix : AllIsAPrefix
all_prefix fast lines heard x y h key = same_prefix _ _ (h key)
