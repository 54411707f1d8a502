use Rattle.std.proofs.Common.{◌≡◌, ℕ, List, [], ◌∷◌, length, take, drop, refl, sym, ap, ◌∙◌, subst}
use Rattle.std.proofs.lemmas.List.{take-append-drop, drop_at}
use Rattle.m2_frame.specs.Grammar.{IsStreamText}
use Rattle.m2_frame.specs.Reading.{Item, judge}
use Rattle.m2_frame.specs.Stream.{Splits}
use Rattle.m2_frame.proofs.Parsed.{judged-item_text}
use Rattle.m2_frame.proofs.Spelled.{item_text-judged}
use Rattle.m2_frame.proofs.laws.judged_by_the_tables.Goals as goal

pub returns-clause-sound : goal.returns-clause-sound
returns-clause-sound c = judged-item_text

pub returns-clause-complete : goal.returns-clause-complete
returns-clause-complete c = item_text-judged

stream-spelled : (items : List Item) (stream rest : List ℕ) → Splits stream items rest → IsStreamText stream items rest
stream-spelled [] stream rest e = e
stream-spelled (i ∷ is) stream rest s = (
  take s.0 stream,
  drop s.0 stream,
  sym (take-append-drop s.0 stream),
  judged-item_text stream i s.0 s.1,
  stream-spelled is (drop s.0 stream) rest s.2,
)

stream-split : (items : List Item) (stream rest : List ℕ) → IsStreamText stream items rest → Splits stream items rest
stream-split [] stream rest e = e
stream-split (i ∷ is) stream rest s =
    let after : drop (length s.0) stream ≡ s.1 = ap (drop (length s.0)) s.2 ∙ drop_at s.0 s.1 (length s.0) refl in (
      length s.0,
      ap judge s.2 ∙ item_text-judged i s.0 s.1 s.3,
      subst (λ (x : List ℕ). Splits x is rest) (sym after) (stream-split is s.1 rest s.4),
    )

pub returns-clause-stream : goal.returns-clause-stream
returns-clause-stream c items stream rest = (stream-spelled items stream rest, stream-split items stream rest)
