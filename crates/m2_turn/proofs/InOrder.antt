-- Records that take their turns, one after another.
use Rattle.std.proofs.Common.{◌≡◌, inl, inr, true, false, List, [], ◌∷◌, refl, sym, ap, subst}
use Rattle.m2_dispatch.specs.Heard.{Heard}
use Rattle.m2_record.specs.RecordNow.{RecordNow}
use Rattle.m2_turn.specs.declared.records_turn.RecordsTurn.{RecordsTurn}
use Rattle.m2_turn.specs.declared.records_turn.RecordsTurn.TheVariants as turn
use Rattle.m2_turn.specs.Outbox.{is_free}
use Rattle.m2_turn.specs.RecordTurn.{Means}
use Rattle.m2_turn.specs.RecordsTurn.{Amid, Around, DialsAndSteps, DialsNot, TurnsIf, TurnsInOrder, TurnsOne, all_amid, amid}

-- ---- one record

pub left_alone : {D : Type 0} (heard : D → List Heard) (m : Means) (r : RecordNow) (a : Around D) → is_free a.out ≡ false → TurnsOne heard m turn.Done (amid r a) (amid r a)
left_alone heard m r a full = subst (λ b. TurnsIf b heard m turn.Done (amid r a) (amid r a)) (sym full) refl

pub not_dialled : {D : Type 0} (heard : D → List Heard) (m : Means) (old new : Amid D) → is_free old.around.out ≡ true → DialsNot m old new → TurnsOne heard m turn.NoMemory old new
not_dialled heard m old new free not = subst (λ b. TurnsIf b heard m turn.NoMemory old new) (sym free) (inl not)

pub dialled : {D : Type 0} (heard : D → List Heard) (m : Means) (result : RecordsTurn) (old new : Amid D) → is_free old.around.out ≡ true → DialsAndSteps heard m result old new → TurnsOne heard m result old new
dialled heard m turn.Done old new free did = subst (λ b. TurnsIf b heard m turn.Done old new) (sym free) did
dialled heard m turn.NoMemory old new free did = subst (λ b. TurnsIf b heard m turn.NoMemory old new) (sym free) (inr did)

-- ---- all of them

pub none_left : {D : Type 0} (heard : D → List Heard) (m : Means) (a : Around D) → TurnsInOrder heard m turn.Done (all_amid [] a) (all_amid [] a)
none_left heard m a = record { stood = []; turns = refl; records = refl }

pub one_more : {D : Type 0} (heard : D → List Heard) (m : Means) (result : RecordsTurn) (r s : RecordNow) (rs ss : List RecordNow) (a b c : Around D) → TurnsOne heard m turn.Done (amid r a) (amid s b) →
    TurnsInOrder heard m result (all_amid rs b) (all_amid ss c) → TurnsInOrder heard m result (all_amid (r ∷ rs) a) (all_amid (s ∷ ss) c)
one_more heard m turn.Done r s rs ss a b c one rest = record { stood = amid s b ∷ rest.stood; turns = (one, rest.turns); records = ap (λ l. s ∷ l) rest.records }
one_more heard m turn.NoMemory r s rs ss a b c one rest = record {
  before = r ∷ rest.before;
  at = rest.at;
  rest = rest.rest;
  split = ap (λ l. r ∷ l) rest.split;
  stood = amid s b ∷ rest.stood;
  mid = rest.mid;
  turns = (one, rest.turns);
  left = rest.left;
  stops = rest.stops;
  records = ap (λ l. s ∷ l) rest.records;
}

pub stops_here : {D : Type 0} (heard : D → List Heard) (m : Means) (r s : RecordNow) (rs : List RecordNow) (a b : Around D) → TurnsOne heard m turn.NoMemory (amid r a) (amid s b) →
    TurnsInOrder heard m turn.NoMemory (all_amid (r ∷ rs) a) (all_amid (s ∷ rs) b)
stops_here heard m r s rs a b one = record { before = []; at = r; rest = rs; split = refl; stood = []; mid = a; turns = refl; left = s; stops = one; records = refl }
