-- A line of the report is read in one way, whatever stands behind it.
use Rattle.std.proofs.Common.{◌≡◌, ℕ, ◌≤◌, ◌^◌, ◌<◌, List, ◌∷◌, ◌++◌, codes, length, refl, sym, ap, ◌∙◌, arith, append_assoc}
use Rattle.std.specs.Fmt.{decimal}
use Rattle.std.proofs.lemmas.Fmt.{decimal_injective}
use Rattle.m2_bytes.specs.Hexadecimal.{hex_text}
use Rattle.m2_message.specs.Message.{Content}
use Rattle.m2_policy.specs.declared.path.Key.{Key}
use Rattle.m2_policy.specs.declared.path.Path.{Path}
use Rattle.m2_policy.specs.declared.path.Path.TheVariants.{Fast, Queued}
use Rattle.m2_dispatch.specs.Heard.{Heard, message, reset}
use Rattle.m2_scenario.specs.Text.{Word, word}
use Rattle.m2_scenario.specs.Report.{path_word, dispatch_line, reset_line, line_of}
use Rattle.m2_scenario.specs.Printed.{PrintedMessage, printed_message, printed_reset, message_of, printed_of, FieldsFit, IsPart, IsReportable}
use Rattle.m2_scenario.proofs.PlainWords.{IsPlain, cut_once, plain_if, plain_decimal}
use Rattle.m2_scenario.proofs.HexWords.{HexIsReadAgain, hex_once, plain_hex_text}

-- ---- the words of a line

-- the words of a message behind the second, and what stands behind the line
abbrev message_words : Word → PrintedMessage → Word → Word
message_words peer m rest =
    peer ++ 32 ∷ (decimal m.key.priority ++ 32 ∷ (path_word m.key.path ++ 32 ∷ (decimal m.kind ++ 32 ∷
    (hex_text m.front ++ 32 ∷ (hex_text m.middle ++ 32 ∷ (hex_text m.tail ++ 10 ∷ rest))))))

message_shape : (node peer : Word) (key : Key) (m : Content) (rest : Word)
    → dispatch_line node peer key m ++ rest ≡ node ++ 32 ∷ (codes "from" ++ 32 ∷ message_words peer (message_of key m) rest)
message_shape node peer key m rest = simp append_assoc

reset_shape : (node peer rest : Word) → reset_line node peer ++ rest ≡ node ++ 32 ∷ (codes "reset" ++ 32 ∷ (peer ++ 10 ∷ rest))
reset_shape node peer rest = simp append_assoc

-- ---- each word tells what it was written for

-- a number before a space
number_once : (m n : ℕ) (r s : Word) → m < 2 ^ 16 → n < 2 ^ 16
    → decimal m ++ 32 ∷ r ≡ decimal n ++ 32 ∷ s → (m ≡ n) × (r ≡ s)
number_once m n r s small small_too e =
    let fits : m < 2 ^ 64 = omega arith in
    let fits_too : n < 2 ^ 64 = omega arith in
    let word = cut_once 32 (decimal m) (decimal n) r s (omega arith) (plain_decimal m fits) (plain_decimal n fits_too) e in
    (decimal_injective m n fits fits_too word.0, word.1)

-- a part before a space or a line feed
part_once : HexIsReadAgain → (mark : ℕ) → mark ≤ 32 → (a b r s : Word) → IsPart a → IsPart b
    → hex_text a ++ mark ∷ r ≡ hex_text b ++ mark ∷ s → (a ≡ b) × (r ≡ s)
part_once again mark low a b r s part part_too e =
    let word = cut_once mark (hex_text a) (hex_text b) r s low (plain_hex_text a part) (plain_hex_text b part_too) e in
    (hex_once again a b part part_too word.0, word.1)

plain_path : (p : Path) → IsPlain (path_word p)
plain_path Fast = plain_if (path_word Fast) refl
plain_path Queued = plain_if (path_word Queued) refl

same_path : (p q : Path) → path_word p ≡ path_word q → p ≡ q
same_path Fast Fast e = refl
same_path Fast Queued e = absurd (omega (arith, ap length e))
same_path Queued Fast e = absurd (omega (arith, ap length e))
same_path Queued Queued e = refl

-- a path before a space
path_once : (p q : Path) (r s : Word) → path_word p ++ 32 ∷ r ≡ path_word q ++ 32 ∷ s → (p ≡ q) × (r ≡ s)
path_once p q r s e =
    let word = cut_once 32 (path_word p) (path_word q) r s (omega arith) (plain_path p) (plain_path q) e in
    (same_path p q word.0, word.1)

message_once : HexIsReadAgain → (p q : Word) (m n : PrintedMessage) (r s : Word)
    → IsPlain p → IsPlain q → FieldsFit m → FieldsFit n
    → message_words p m r ≡ message_words q n s → (p ≡ q) × (m ≡ n) × (r ≡ s)
message_once again p q m n r s plain plain_too fits fits_too e =
    let peer = cut_once 32 p q _ _ (omega arith) plain plain_too e in
    let priority = number_once m.key.priority n.key.priority _ _ fits.priority fits_too.priority peer.1 in
    let path = path_once m.key.path n.key.path _ _ priority.1 in
    let kind = number_once m.kind n.kind _ _ fits.kind fits_too.kind path.1 in
    let front = part_once again 32 (omega arith) m.front n.front _ _ fits.front fits_too.front kind.1 in
    let middle = part_once again 32 (omega arith) m.middle n.middle _ _ fits.middle fits_too.middle front.1 in
    let tail = part_once again 10 (omega arith) m.tail n.tail r s fits.tail fits_too.tail middle.1 in
    let same : m ≡ n = λ i. record {
      key = record { priority = priority.0 i; path = path.0 i };
      kind = kind.0 i;
      front = front.0 i;
      middle = middle.0 i;
      tail = tail.0 i;
    } in
    (peer.0, same, tail.1)

-- ---- a line

-- names that are plain words and tell their nodes apart
pub record AreTellingNames (names : List Word) : Type 0 where
  pub plain : (k : ℕ) → k < length names → IsPlain (word names k)
  pub once : (j k : ℕ) → j < length names → k < length names → word names j ≡ word names k → j ≡ k

-- a line begins with the name of its node and a space
pub line_begins : (names : List Word) (node : Word) (h : Heard) (rest : Word) → (more : Word) × (line_of names node h ++ rest ≡ node ++ 32 ∷ more)
line_begins names node (message peer key number life m) rest = (_, message_shape node (word names peer) key m rest)
line_begins names node (reset peer) rest = (_, reset_shape node (word names peer) rest)

words_differ : codes "from" ≡ codes "reset" → ⊥
words_differ e = absurd (omega (arith, ap length e))

plain_from : IsPlain (codes "from")
plain_from = plain_if (codes "from") refl

plain_reset : IsPlain (codes "reset")
plain_reset = plain_if (codes "reset") refl

-- behind the name of the node two lines go on with the same word
second_once : (node v w r s : Word) → IsPlain node → IsPlain v → IsPlain w
    → node ++ 32 ∷ (v ++ 32 ∷ r) ≡ node ++ 32 ∷ (w ++ 32 ∷ s) → (v ≡ w) × (r ≡ s)
second_once node v w r s plain plain_v plain_w e =
    cut_once 32 v w r s (omega arith) plain_v plain_w (cut_once 32 node node _ _ (omega arith) plain plain e).1

pub line_once : HexIsReadAgain → (names : List Word) → AreTellingNames names → (node : Word) → IsPlain node → (x y : Heard)
    → IsReportable (length names) x → IsReportable (length names) y → (r s : Word)
    → line_of names node x ++ r ≡ line_of names node y ++ s → (printed_of x ≡ printed_of y) × (r ≡ s)
line_once again names telling node plain (message p k a u m) (message q l b v n) x y r s e =
    let one = message_shape node (word names p) k m r in
    let other = message_shape node (word names q) l n s in
    let second = second_once node (codes "from") (codes "from") _ _ plain plain_from plain_from (sym one ∙ e ∙ other) in
    let words = message_once again (word names p) (word names q) (message_of k m) (message_of l n) r s
    (telling.plain p x.peer) (telling.plain q y.peer) x.fits y.fits second.1 in
    let peer = telling.once p q x.peer y.peer words.0 in
    (ap (λ w. printed_message w (message_of k m)) peer ∙ ap (printed_message q) words.1, words.2)
line_once again names telling node plain (message p k a u m) (reset q) x y r s e =
    let one = message_shape node (word names p) k m r in
    let other = reset_shape node (word names q) s in
    let second = second_once node (codes "from") (codes "reset") _ _ plain plain_from plain_reset (sym one ∙ e ∙ other) in
    absurd (words_differ second.0)
line_once again names telling node plain (reset p) (message q l b v n) x y r s e =
    let one = reset_shape node (word names p) r in
    let other = message_shape node (word names q) l n s in
    let second = second_once node (codes "reset") (codes "from") _ _ plain plain_reset plain_from (sym one ∙ e ∙ other) in
    absurd (words_differ (sym second.0))
line_once again names telling node plain (reset p) (reset q) x y r s e =
    let one = reset_shape node (word names p) r in
    let other = reset_shape node (word names q) s in
    let second = second_once node (codes "reset") (codes "reset") _ _ plain plain_reset plain_reset (sym one ∙ e ∙ other) in
    let peer = cut_once 10 (word names p) (word names q) r s (omega arith) (telling.plain p x.peer) (telling.plain q y.peer) second.1 in
    (ap printed_reset (telling.once p q x.peer y.peer peer.0), peer.1)
