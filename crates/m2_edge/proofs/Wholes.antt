-- Reading and writing whole, step by step.
use Rattle.std.proofs.Common.{◌≡◌, ℕ, ◌≤◌, List, ◌++◌, length, take, Option, None, Some, IfSome, IsTrue, ◌⊎◌, inl, inr, sym, ◌∙◌, ap, subst, arith, append_assoc}
use Rattle.std.proofs.Math.Seq.{take-append_seam}
use Rattle.std.proofs.lemmas.List.{length-take, take_all, take_min}
use Rattle.m2_edge.specs.Sink.{SeenSink, TakesBytes, TakesPrefix}
use Rattle.m2_edge.specs.Source.{SeenSource, IsGivenFrom, GivesItsInput}
use Rattle.m2_edge.specs.Whole.{IsReadUpTo}

-- what is taken in two steps is taken
pub takes_more : (done more : List ℕ) (a b c : SeenSink) → TakesBytes done a b → TakesBytes more b c → TakesBytes (done ++ more) a c
takes_more done more a b c h k = k ∙ ap (λ t. t ++ more) h ∙ append_assoc a.taken done more

-- what was taken so far is a prefix of the text
pub prefix_taken : (bytes done rest : List ℕ) (a b c : SeenSink) → bytes ≡ done ++ rest → TakesBytes done a b → c.taken ≡ b.taken → TakesPrefix bytes a c
prefix_taken bytes done rest a b c e h k =
    let same : take (length done) bytes ≡ done = ap (take (length done)) e ∙ take-append_seam done rest in
    let Q : List ℕ → Type 0 = λ d. TakesBytes d a c in
    (length done, subst Q (sym same) (k ∙ h))

-- the first bytes of an input, by how many they are
prefix_by_length : (input bytes : List ℕ) (n most : ℕ) → bytes ≡ take n input → length bytes ≡ most → bytes ≡ take most input
prefix_by_length input bytes n most e len =
    e ∙ sym (take_min n input) ∙ ap (λ k. take k input) (sym (length-take n input) ∙ ap length (sym e) ∙ len)

-- what was read to its end or to so many bytes is as much of the input
known_whole : (most : ℕ) (bytes input : List ℕ) (s : SeenSource) → length bytes ≤ most → bytes ≡ s.given → IsTrue s.ended ⊎ (length bytes ≡ most)
    → IsGivenFrom input s → bytes ≡ take most input
known_whole most bytes input s fits given (inl ended) from =
    let all : bytes ≡ input = given ∙ from.whole ended in
    all ∙ sym (take_all most input (omega (arith, ap length all, fits)))
known_whole most bytes input s fits given (inr len) from = prefix_by_length input bytes from.prefix.0 most (given ∙ from.prefix.1) len

pub read_up_to : (most : ℕ) (bytes : List ℕ) (s : SeenSource) → length bytes ≤ most → bytes ≡ s.given → IsTrue s.ended ⊎ (length bytes ≡ most)
    → GivesItsInput s → IsReadUpTo most bytes s
read_up_to most bytes s fits given whole known = record { given = given; whole = whole; known = by_input s.begun known }
  where
    by_input : (begun : Option (List ℕ)) → IfSome begun (λ input. IsGivenFrom input s) → IfSome begun (λ input. bytes ≡ take most input)
    by_input None k = k
    by_input (Some input) k = known_whole most bytes input s fits given whole k
