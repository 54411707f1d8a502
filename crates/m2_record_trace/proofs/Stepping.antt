-- A step of a side for which there is no room: nothing is done.
use Rattle.std.proofs.Common.{◌≡◌, ℕ, ◌-◌, refl, sym, subst, ◌∙◌, ap, arith, append-nil}
use Rattle.m2_shared.specs.Gates.{dispatch, words}
use Rattle.m2_shared.specs.declared.throttles.TakePasses.{TakePasses}
use Rattle.m2_record.specs.m2_core.Granting.{Throttled}
use Rattle.m2_record.specs.declared.stepped.Stepped.TheVariants as stepped
use Rattle.m2_record.specs.RecordNow.{RecordNow}
use Rattle.m2_record.specs.Stepping.{Counted, DrawsNothing, NothingDone}
use Rattle.m2_record_trace.specs.declared.step.SideStep.TheVariants as side
use Rattle.m2_record_trace.specs.SideNow.{SideNow}
use Rattle.m2_record_trace.specs.Steps.{TakesStep}
use Rattle.m2_record.proofs.DueSteps.{feed-itself}

nothing_done : (r : RecordNow) → NothingDone r r
nothing_done r = record { feed = feed-itself r.core.live.feed; only = refl }

pub no_step : (now : ℕ) (bytes : Throttled) (numbers : Counted) (s new : SideNow) → words bytes.before dispatch ≡ s.out → bytes.behind ≡ bytes.before → DrawsNothing numbers → new ≡ s → TakesStep side.NoMemory now s new
no_step now bytes numbers s new before stays none same =
    let behind : words bytes.behind dispatch ≡ s.out = ap (λ (p : TakePasses). words p dispatch) stays ∙ before in
    let out : words bytes.behind dispatch - 0 ≡ s.out = omega (arith, behind) in
    subst (TakesStep side.NoMemory now s) (sym same) (record {
      stepped = stepped.NoMemory;
      worked = record { now = now; answer = stepped.NoMemory; bytes = bytes; numbers = numbers };
      moment = refl;
      same = refl;
      answers = refl;
      steps = record { nothing = nothing_done s.kept; bytes = λ gate _. ap (λ (p : TakePasses). words p gate) stays; numbers = none };
      before = before;
      only = rw (out, append-nil s.log, append-nil s.fast) refl;
    })
