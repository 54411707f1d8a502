-- What is left where memory ran out before words of some form were read.
use Rattle.std.proofs.Common.{◌≡◌, ◌≢◌, ◌∙◌, ℕ, List, [], Option, None, Some, refl, sym, ap, append-nil, inl}
use Rattle.m2_fabric.specs.Fabric.{SeenFabric}
use Rattle.m2_scenario.specs.Text.{Word}
use Rattle.m2_edge.specs.Sink.{SeenSink}
use Rattle.m2_edge.specs.Source.{SeenSource, IsWhereItWas}
use Rattle.m2_cli.specs.Form.{Form, sim_of, run_of, frames_of, load_of, MatchForm}
use Rattle.m2_cli.specs.declared.status.Status.{Status}
use Rattle.m2_cli.specs.declared.status.Status.TheVariants.{NoMemory}
use Rattle.m2_cli.specs.Edge.{Edge}
use Rattle.m2_cli.specs.Frames.{ListsFile}
use Rattle.m2_cli.specs.Load.{RunsLoad}
use Rattle.m2_cli.specs.Print.{SaysStatus}
use Rattle.m2_cli.proofs.Says.{says_named}
use Rattle.m2_cli.specs.Ends.{Ends}
use Rattle.m2_cli.specs.Threads.{RunsThreads, names_in}
use Rattle.m2_cli.specs.Top.{IsOfNoForm, RunsFile}

where_it_was : (old new : SeenSource) → new ≡ old → IsWhereItWas old new
where_it_was old new e =
    record { given = ap (λ (s : SeenSource). s.given) e; ended = ap (λ (s : SeenSource). s.ended) e; begun = ap (λ (s : SeenSource). s.begun) e }

-- the names of the file's nodes, with `run FILE`
abbrev names_by : Option Form → Edge → List Word
names_by (Some (run_of file)) after = names_in after.source.given
names_by _ after = []

left_by : (may_give : ℕ → Type 0) (old new : SeenFabric) → new.faults ≡ old.faults → (form : Option Form) (before after : Edge) → form ≢ None → after.source ≡ before.source → after.out ≡ before.out
    → MatchForm form (IsOfNoForm NoMemory before after) (λ file. RunsFile file NoMemory before after)
    (λ file. RunsThreads may_give old new file NoMemory before after × (names_by form after ≡ names_in after.source.given)) (λ file. ListsFile file NoMemory before after)
    (λ posts seed. RunsLoad posts seed NoMemory before after)
left_by may_give old new stays None before after some unread unprinted = absurd (some refl)
left_by may_give old new stays (Some (sim_of file)) before after some unread unprinted =
    record { stands = inl (where_it_was before.source after.source unread); unprinted = unprinted }
left_by may_give old new stays (Some (run_of file)) before after some unread unprinted =
    ((record { stands = inl (where_it_was before.source after.source unread); unprinted = unprinted }, inl stays), refl)
left_by may_give old new stays (Some (frames_of file)) before after some unread unprinted = record {
  stands = inl (where_it_was before.source after.source unread);
  lists = (
    [],
    (0, refl),
    record {
      items = [];
      rest = [];
      splits = refl;
      written = (0, ap (λ (s : SeenSink). s.taken) unprinted ∙ sym (append-nil before.out.taken));
    },
  );
}
left_by may_give old new stays (Some (load_of posts seed)) before after some unread unprinted = record { unread = unread; unprinted = unprinted }

pub memory_ends : (may_give : ℕ → Type 0) (old new : SeenFabric) → new.faults ≡ old.faults → (form : Option Form) (answered : Status) (before after : Edge) → form ≢ None → after.source ≡ before.source → after.out ≡ before.out
    → SaysStatus [] NoMemory answered before.err after.err → Ends may_give old new form answered before after
memory_ends may_give old new stays form answered before after some unread unprinted said =
    record { work = NoMemory; names = names_by form after; said = says_named (names_by form after) NoMemory answered before.err after.err refl said; left = left_by may_give old new stays form before after some unread unprinted }
