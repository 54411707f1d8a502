-- What was put into one direction of a socket is what was taken, then what waits, and then what was left.
use Rattle.std.proofs.Common.{◌≡◌, ℕ, Bool, true, false, List, [], ◌++◌, refl, sym, ap, ◌∙◌}
use Rattle.std.proofs.lemmas.List.{append-nil, append_assoc}
use Rattle.m2_mem_fabric.specs.Stream.{IsInOrder}

pub put_in_order : (put taken waiting piece : List ℕ) → IsInOrder false put taken waiting → IsInOrder false (put ++ piece) taken (waiting ++ piece)
put_in_order put taken waiting piece o =
    let old : put ≡ taken ++ waiting = o.whole ∙ ap (λ l. taken ++ (waiting ++ l)) (o.all refl) ∙ ap (λ l. taken ++ l) (append-nil waiting) in record {
      left = [];
      whole = ap (λ l. l ++ piece) old ∙ append_assoc taken waiting piece ∙ ap (λ l. taken ++ l) (sym (append-nil (waiting ++ piece)));
      all = λ e. refl;
    }

pub take_in_order : (gone : Bool) (put taken waiting : List ℕ) → IsInOrder gone put taken waiting → IsInOrder gone put (taken ++ waiting) []
take_in_order gone put taken waiting o = record { left = o.left; whole = o.whole ∙ sym (append_assoc taken waiting o.left); all = o.all }

pub leave_in_order : (gone : Bool) (put taken waiting : List ℕ) → IsInOrder gone put taken waiting → IsInOrder true put taken []
leave_in_order gone put taken waiting o = record { left = waiting ++ o.left; whole = o.whole; all = λ e. absurd (cc) }
