-- Points of a trail, as its log and the replies of its half go on.
use Rattle.std.proofs.Common.{◌≡◌, ℕ, ◌≤◌, ◌<◌, ◌⊎◌, inl, inr, List, [], ◌∷◌, ◌++◌, length, take, refl, sym, ap, ◌∙◌, subst, arith, append_assoc}
use Rattle.std.proofs.lemmas.Bool.{cases_lt}
use Rattle.std.proofs.lemmas.List.{take-append-le, take_all, length-append}
use Rattle.m2_control.specs.declared.control.Control.{Control}
use Rattle.m2_fabric.specs.declared.log.Run.{Run}
use Rattle.m2_fabric.specs.Log.{Log}
use Rattle.m2_handshake.specs.Course.{Exchange, Reaches}
use Rattle.m2_handshake.specs.Laws.{IsPrefix}
use Rattle.m2_handshake.specs.Standing.{Standing}
use Rattle.m2_trail.specs.Trails.{read_by, written_by, got_by, put_by, IsCounted, IsPoint}
use Rattle.m2_trail.proofs.Runs.{read_by-take, written_by-take}

pub prefix_refl : {A : Type 0} (xs : List A) → IsPrefix xs (xs ++ [])
prefix_refl xs = ([], refl)

pub prefix_trans : {A : Type 0} (xs ys zs : List A) → IsPrefix xs ys → IsPrefix ys zs → IsPrefix xs zs
prefix_trans xs ys zs p q = (p.0 ++ q.0, q.1 ∙ (ap (λ l. l ++ q.0) p.1 ∙ append_assoc xs p.0 q.0))

-- the bytes of both directions go on
pub record Longer (old new : Log) : Type 0 where
  pub got : IsPrefix old.got new.got
  pub put : IsPrefix old.put new.put

-- runs of bytes that a log has
pub record Within (runs : List Run) (log : Log) : Type 0 where
  pub got : read_by runs ≤ length log.got
  pub put : written_by runs ≤ length log.put

pub got_stays : (runs : List Run) (old new : Log) → Within runs old → Longer old new → got_by runs new ≡ got_by runs old
got_stays runs old new w l = ap (take (read_by runs)) l.got.1 ∙ take-append-le (read_by runs) old.got l.got.0 w.got

pub put_stays : (runs : List Run) (old new : Log) → Within runs old → Longer old new → put_by runs new ≡ put_by runs old
put_stays runs old new w l = ap (take (written_by runs)) l.put.1 ∙ take-append-le (written_by runs) old.put l.put.0 w.put

pub point_stays : (begin : Standing) (old new : Log) (replies : List Control) (runs : List Run) → Within runs old → Longer old new →
    IsPoint begin old replies runs → IsPoint begin new replies runs
point_stays begin old new replies runs w l p = record {
  exchange = p.exchange;
  standing = p.standing;
  comes = p.comes;
  fed = p.fed ∙ sym (got_stays runs old new w l);
  given = p.given;
  written = subst (λ text. IsPrefix text p.exchange.text) (sym (put_stays runs old new w l)) p.written;
}

pub point_replies : (begin : Standing) (log : Log) (replies more : List Control) (runs : List Run) → IsPrefix replies more →
    IsPoint begin log replies runs → IsPoint begin log more runs
point_replies begin log replies more runs q p = record {
  exchange = p.exchange;
  standing = p.standing;
  comes = p.comes;
  fed = p.fed;
  given = prefix_trans p.exchange.replies replies more p.given q;
  written = p.written;
}

-- the first runs of a log whose runs tell all its bytes
pub first_within : (n : ℕ) (log : Log) → IsCounted log → Within (take n log.runs) log
first_within n log c =
    let got = read_by-take n log.runs in
    let put = written_by-take n log.runs in
    record { got = omega (arith, c.got); put = omega (arith, c.put) }

pub all_got : (log : Log) → IsCounted log → got_by log.runs log ≡ log.got
all_got log c = take_all (read_by log.runs) log.got (omega (arith, c.got))

pub all_put : (log : Log) → IsCounted log → put_by log.runs log ≡ log.put
all_put log c = take_all (written_by log.runs) log.put (omega (arith, c.put))

-- the point behind all runs
pub last_point : (begin s : Standing) (log : Log) (replies : List Control) (x : Exchange) → IsCounted log → Reaches begin x s →
    x.bytes ≡ log.got → IsPrefix x.replies replies → IsPrefix log.put x.text → IsPoint begin log replies log.runs
last_point begin s log replies x c r b g t = record {
  exchange = x;
  standing = s;
  comes = r;
  fed = b ∙ sym (all_got log c);
  given = g;
  written = subst (λ text. IsPrefix text x.text) (sym (all_put log c)) t;
}

-- one run more is one point more
pub points_more : (begin : Standing) (old new : Log) (replies : ℕ → List Control) (r : Run) → IsCounted old → Longer old new → new.runs ≡ old.runs ++ r ∷ [] →
    ((n : ℕ) → IsPoint begin old (replies n) (take n old.runs)) → ((n : ℕ) → length old.runs < n → IsPoint begin new (replies n) new.runs) →
    (n : ℕ) → IsPoint begin new (replies n) (take n new.runs)
points_more begin old new replies r c l e points last n = by_place (cases_lt (length old.runs) n)
  where
    by_place : (length old.runs < n) ⊎ (n ≤ length old.runs) → IsPoint begin new (replies n) (take n new.runs)
    by_place (inl h) =
        let all : take n new.runs ≡ new.runs = take_all n new.runs (rw (ap length e, length-append old.runs (r ∷ [])) (omega arith)) in
        subst (IsPoint begin new (replies n)) (sym all) (last n h)
    by_place (inr h) =
        let same : take n new.runs ≡ take n old.runs = ap (take n) e ∙ take-append-le n old.runs (r ∷ []) h in
        subst (IsPoint begin new (replies n)) (sym same) (point_stays begin old new (replies n) (take n old.runs) (first_within n old c) l (points n))
