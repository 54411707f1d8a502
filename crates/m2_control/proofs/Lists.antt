-- Lists of numbers, read one after the other.
use Rattle.std.proofs.Common.{◌≡◌, ℕ, zero, suc, ◌+◌, ◌-◌, ◌*◌, ◌<◌, ◌≤◌, true, false, ltb, List, [], ◌∷◌, ◌++◌, length, take, drop, Result, Ok, Err, refl, sym, ap, ◌∙◌, append_assoc, arith, inl, inr, length-drop}
use Rattle.std.specs.Int.{w32, w64, from_le_bytes, to_le_bytes}
use Rattle.std.specs.List.{flat_map}
use Rattle.std.proofs.lemmas.List.{append-nil, length-append}
use Rattle.std.proofs.lemmas.List.Concat.{flat_map-cons}
use Rattle.std.proofs.lemmas.List.Folds.{length-flat_map-take}
use Rattle.std.proofs.lemmas.Bool.{cases_lt, le-ltb, lt-ltb}
use Rattle.m2_control.specs.declared.fault.ControlFault.{ControlFault}
use Rattle.m2_control.specs.declared.fault.ControlFault.TheVariants.{Short}
use Rattle.m2_addr.specs.Reading.{◌>>=◌, number, ◌⊳◌, made}
use Rattle.m2_control.specs.Fields.{numbers_at}

-- where fewer bytes are left than so many numbers take, reading is short
pub too_few : (n : ℕ) (bytes : List ℕ) → length bytes < 4 * n → numbers_at n bytes ≡ Err Short
unfolding numbers_at
too_few zero bytes lt = absurd (omega arith)
too_few (suc n) bytes lt =
    elim (cases_lt (length bytes) 4) [
      | inl less ↦ let t : ltb (length bytes) 4 ≡ true = lt-ltb _ _ less in rw t refl
      | inr le ↦
          let t : ltb (length bytes) 4 ≡ false = le-ltb _ _ le in
          let rest : numbers_at n (drop 4 bytes) ≡ Err Short = too_few n (drop 4 bytes) (omega (arith, length-drop 4 bytes)) in
          rw (t, rest) refl
    ]

-- what was read before, and what is still read
abbrev pub with_prefix : List ℕ → Result (List ℕ × List ℕ) ControlFault → Result (List ℕ × List ℕ) ControlFault
with_prefix before read = read >>= λ x. Ok (before ++ x.0, x.1)

abbrev put_before : ℕ → Result (List ℕ × List ℕ) ControlFault → Result (List ℕ × List ℕ) ControlFault
put_before n read = made (λ x. x.0 ∷ x.1) ((λ bytes. Ok (n, bytes)) ⊳ (λ bytes. read)) []

regroup : (before : List ℕ) (n : ℕ) (read : Result (List ℕ × List ℕ) ControlFault) → with_prefix before (put_before n read) ≡ with_prefix (before ++ n ∷ []) read
regroup before n (Ok x) = ap (λ (ns : List ℕ). let r : Result (List ℕ × List ℕ) ControlFault = Ok (ns, x.1) in r) (simp append_assoc)
regroup before n (Err f) = refl

pub goes_on : (before : List ℕ) (count i : ℕ) (bytes : List ℕ) (n : ℕ) (after : List ℕ) (total : Result (List ℕ × List ℕ) ControlFault) → i < count → number w32 Short bytes ≡ Ok (n, after)
    → with_prefix before (numbers_at (count - i) bytes) ≡ total → with_prefix (before ++ n ∷ []) (numbers_at (count - (i + 1)) after) ≡ total
unfolding numbers_at
goes_on before count i bytes n after total lt h so_far =
    let k : count - i ≡ suc (count - (i + 1)) = omega arith in
    let one : with_prefix before (numbers_at (count - i) bytes) ≡ with_prefix (before ++ n ∷ []) (numbers_at (count - (i + 1)) after) = rw (k, h) (regroup before n (numbers_at (count - (i + 1)) after)) in
    sym one ∙ so_far

pub ends : (before : List ℕ) (count i : ℕ) (bytes : List ℕ) (total : Result (List ℕ × List ℕ) ControlFault) → i < count → number w32 Short bytes ≡ Err Short
    → with_prefix before (numbers_at (count - i) bytes) ≡ total → total ≡ Err Short
unfolding numbers_at
ends before count i bytes total lt h so_far =
    let k : count - i ≡ suc (count - (i + 1)) = omega arith in
    let one : with_prefix before (numbers_at (count - i) bytes) ≡ Err Short = rw (k, h) refl in
    sym so_far ∙ one

pub is_done : (before : List ℕ) (count i : ℕ) (bytes : List ℕ) (total : Result (List ℕ × List ℕ) ControlFault) → count ≤ i → with_prefix before (numbers_at (count - i) bytes) ≡ total → total ≡ Ok (before, bytes)
unfolding numbers_at
is_done before count i bytes total le so_far =
    let k : count - i ≡ 0 = omega arith in
    let one : with_prefix before (numbers_at (count - i) bytes) ≡ Ok (before, bytes) = rw k (ap (λ (ns : List ℕ). let r : Result (List ℕ × List ℕ) ControlFault = Ok (ns, bytes) in r) (append-nil before)) in
    sym so_far ∙ one

pub words_length : (ns : List ℕ) → length (flat_map (to_le_bytes w32) ns) ≡ 4 * length ns
words_length [] = refl
words_length (n ∷ ns) = omega (arith, words_length ns, ap length (flat_map-cons (to_le_bytes w32) n ns), length-append (to_le_bytes w32 n) (flat_map (to_le_bytes w32) ns))

pub no_room : (ns : List ℕ) (i : ℕ) (old room : ℕ) → i < length ns → 4 + length (flat_map (to_le_bytes w32) ns) ≤ old → old ≤ room + (4 + length (flat_map (to_le_bytes w32) (take i ns))) → room < 4 → ⊥
no_room ns i old room lt fits so_far short = omega (arith, length-flat_map-take (to_le_bytes w32) ns i 0 lt)

pub number_is : (bytes : List ℕ) (n : ℕ) (new : List ℕ) → 4 ≤ length bytes → n ≡ from_le_bytes w32 (take 4 bytes) → new ≡ drop 4 bytes → number w32 Short bytes ≡ Ok (n, new)
number_is bytes n new long is left =
    let t : ltb (length bytes) 4 ≡ false = le-ltb _ _ long in
    rw (t, is, left) refl

pub no_room_words : (ns : List ℕ) (i : ℕ) (old room : ℕ) → i < length ns → length (flat_map (to_le_bytes w64) ns) ≤ old → old ≤ room + length (flat_map (to_le_bytes w64) (take i ns)) → room < 8 → ⊥
no_room_words ns i old room lt fits so_far short = omega (arith, length-flat_map-take (to_le_bytes w64) ns i 0 lt)
