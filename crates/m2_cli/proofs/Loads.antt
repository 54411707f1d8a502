-- What a load leaves, by what its work came to, and that what it prints keeps the order of the posts, since a run keeps its promise.
use Rattle.std.proofs.Common.{◌≡◌, ◌∙◌, ℕ, ◌==◌, Bool, true, false, cond, List, refl, sym, subst, inl, inr, []}
use Rattle.std.specs.Prelude.{count_by}
use Rattle.std.proofs.lemmas.Bool.{eqb-true}
use Rattle.m2_edge.specs.Sink.{TakesBytes, TakesPrefix}
use Rattle.m2_scenario.specs.OrderLaws.{CallsAndLeftArePosts}
use Rattle.m2_scenario.specs.Draft.{is_post}
use Rattle.m2_scenario.specs.Generated.{generated}
use Rattle.m2_cli.specs.declared.printout.Printout.{Printout}
use Rattle.m2_cli.specs.declared.status.Status.{Status}
use Rattle.m2_cli.specs.declared.status.Status.TheVariants as status
use Rattle.m2_cli.specs.Edge.{Edge, IsCause}
use Rattle.m2_cli.specs.Load.{CountsPrefixes, KeepsLoad, LoadComesTo, RunsLoad, load_left}
use Rattle.m2_cli.specs.Print.{Delivers, PrintsReport, SaysStatus, unsaid}
use Rattle.m2_cli.specs.Printout.{IsPrintoutBy}
use Rattle.m2_cli.proofs.LoadLinks.{load_is_up}
use Rattle.m2_cli.proofs.Orders.{heard_all, keeps_sessions}
use Rattle.m2_program.proofs.Endings.{prefix_whole}

-- all was written, by the count of what is left
left_runs : (b : Bool) (n posts seed : ℕ) (text : List ℕ) (before after : Edge) → after.source ≡ before.source → Delivers text before.out after.out
    → LoadComesTo posts seed (cond b status.Done (status.Left n)) text → RunsLoad posts seed (cond b status.Done (status.Left n)) before after
left_runs true n posts seed text before after u d c = record { unread = u; text = text; comes = c; printed = d }
left_runs false n posts seed text before after u d c = record { unread = u; text = text; comes = c; printed = d }

-- what runs, however printing went
pub load_printed : (p : Printout) (work : Status) (posts seed : ℕ) (before after : Edge) → IsPrintoutBy [] (LoadComesTo posts seed) p
    → after.source ≡ before.source → PrintsReport p work before.out after.out → RunsLoad posts seed work before after
load_printed p work posts seed before after o unread (inl (same, d)) =
    let n = load_left posts seed o.comes.last in
    let P : Status → Type 0 = λ x. RunsLoad posts seed x before after in
    let Q : Status → Type 0 = λ x. LoadComesTo posts seed x p.report.bytes in
    subst P (sym (same ∙ o.comes.counted)) (left_runs (n == 0) n posts seed p.report.bytes before after unread d (subst Q o.comes.counted o.comes))
load_printed p work posts seed before after o unread (inr (same, failed, some)) =
    let P : Status → Type 0 = λ x. RunsLoad posts seed x before after in
    subst P (sym same) (record { unread = unread; failed = failed; status = p.status; text = p.report.bytes; comes = o.comes; printed = some })

-- its cause
pub load_caused : (work : Status) (posts seed : ℕ) (before after : Edge) → RunsLoad posts seed work before after → IsCause work before after
load_caused status.Done posts seed before after h = tt
load_caused status.Usage posts seed before after h = tt
load_caused (status.BadScenario line kind) posts seed before after h = tt
load_caused status.ReadFault posts seed before after h = absurd h
load_caused status.WriteFault posts seed before after h = inl h.failed
load_caused (status.Left count) posts seed before after h = tt
load_caused status.NoMemory posts seed before after h = tt
load_caused (status.BadFrames place fault) posts seed before after h = tt
load_caused (status.BindFault node) posts seed before after h = tt
load_caused (status.Unfit socket opener place why) posts seed before after h = tt
load_caused (status.Stalled left) posts seed before after h = tt

-- ---- the order

-- generated load has as many posts as are asked for
abbrev pub HasAsked : Type 0
HasAsked = (n seed : ℕ) → count_by is_post (generated n seed).lines ≡ n

-- the laws on which it stands
pub record Laws : Type 0 where
  pub together : CallsAndLeftArePosts
  pub asked : HasAsked

counts : Laws → (posts seed count : ℕ) (work : Status) (text : List ℕ) (c : LoadComesTo posts seed work text) → load_left posts seed c.last ≡ count
    → CountsPrefixes posts seed c.last count text
counts laws posts seed count work text c left =
    let sessions = keeps_sessions laws.together (generated posts seed) c.last count c.run left in
    record {
      sessions = sessions;
      lines = c.lines ∙ rw left refl;
      together = λ none. sessions.kept.together (load_is_up posts seed c.last sessions.marked none) ∙ laws.asked posts seed;
    }

-- a load keeps the order, where its lines were written whole
load_order : Laws → (posts seed : ℕ) (work : Status) (text : List ℕ) (before after : Edge) → LoadComesTo posts seed work text
    → TakesBytes text before.out after.out → KeepsLoad posts seed work before after
load_order laws posts seed work text before after c h =
    let P : Status → Type 0 = λ x. KeepsLoad posts seed x before after in subst P (sym c.counted) (by_count (n == 0) refl)
  where
    n : ℕ
    n = load_left posts seed c.last

    by_count : (b : Bool) → (n == 0) ≡ b → KeepsLoad posts seed (cond b status.Done (status.Left n)) before after
    by_count true none =
        let left : n ≡ 0 = eqb-true n 0 none in
        (text, c.last, record { counts = counts laws posts seed 0 work text c left; all = heard_all (generated posts seed) c.last c.run left }, h)
    by_count false some = (text, c.last, counts laws posts seed n work text c refl, h)

-- and where a prefix of them was written
load_prefix : Laws → (posts seed : ℕ) (work : Status) (text : List ℕ) (before after : Edge) → LoadComesTo posts seed work text
    → TakesPrefix text before.out after.out → KeepsLoad posts seed status.WriteFault before after
load_prefix laws posts seed work text before after c h =
    let n = load_left posts seed c.last in inr (text, c.last, n, counts laws posts seed n work text c refl, h)

-- what is answered where standard error refused a line is a write fault, or want of memory
refused : (work : Status) (posts seed : ℕ) (before after : Edge) → KeepsLoad posts seed status.WriteFault before after → KeepsLoad posts seed (unsaid work) before after
refused status.Done posts seed before after h = h
refused status.Usage posts seed before after h = h
refused (status.BadScenario line kind) posts seed before after h = h
refused status.ReadFault posts seed before after h = h
refused status.WriteFault posts seed before after h = h
refused (status.Left count) posts seed before after h = h
refused status.NoMemory posts seed before after h = tt
refused (status.BadFrames place fault) posts seed before after h = h
refused (status.BindFault node) posts seed before after h = h
refused (status.Unfit socket opener place why) posts seed before after h = h
refused (status.Stalled left) posts seed before after h = h

order_said : (work answered : Status) (posts seed : ℕ) (before after : Edge) → KeepsLoad posts seed work before after → KeepsLoad posts seed status.WriteFault before after
    → SaysStatus [] work answered before.err after.err → KeepsLoad posts seed answered before after
order_said work answered posts seed before after h fault (inl s) = let P : Status → Type 0 = λ x. KeepsLoad posts seed x before after in subst P (sym s.answer) h
order_said work answered posts seed before after h fault (inr s) =
    let P : Status → Type 0 = λ x. KeepsLoad posts seed x before after in subst P (sym s.answer) (refused work posts seed before after fault)

-- a printout that was printed, and what was answered
pub load_order_printed : Laws → (p : Printout) (posts seed : ℕ) (answered : Status) (before after : Edge) → IsPrintoutBy [] (LoadComesTo posts seed) p
    → (work : Status) × PrintsReport p work before.out after.out × SaysStatus [] work answered before.err after.err → KeepsLoad posts seed answered before after
load_order_printed laws p posts seed answered before after o (work, inl (same, d), said) =
    let P : Status → Type 0 = λ x. KeepsLoad posts seed x before after in
    let text = p.report.bytes in
    order_said work answered posts seed before after
    (subst P (sym same) (load_order laws posts seed p.status text before after o.comes d.taken))
    (load_prefix laws posts seed p.status text before after o.comes (prefix_whole text before.out after.out d.taken)) said
load_order_printed laws p posts seed answered before after o (work, inr (same, failed, some), said) =
    let P : Status → Type 0 = λ x. KeepsLoad posts seed x before after in
    let part : KeepsLoad posts seed status.WriteFault before after = load_prefix laws posts seed p.status p.report.bytes before after o.comes some in
    order_said work answered posts seed before after (subst P (sym same) part) part said
