-- What event threads have handed on, and what they have put into their mails.
use Rattle.std.proofs.Common.{◌≡◌, ℕ, suc, ◌+◌, List, [], ◌∷◌, ◌++◌, drop, take, sym, ap, subst, ◌∙◌, append_assoc}
use Rattle.std.specs.List.{AllByRecursion}
use Rattle.std.proofs.lemmas.List.{take-append-drop}
use Rattle.m2_bytes.proofs.m2_lemmas.Lists.{all_append, all_by_places}
use Rattle.m2_dispatch.specs.Parcel.{heard_for_all}
use Rattle.m2_dispatch.specs.declared.logged.Logged.{Logged}
use Rattle.m2_dispatch.specs.declared.parcel.Parcel.{Parcel}
use Rattle.m2_dispatch.specs.m2_shared.declared.ids.Ids.{Ids}
use Rattle.m2_mailbox.specs.Merge.{IsMerge}
use Rattle.m2_mailbox.specs.Passes.{IsPutPassOf, WasFull, parts_of, puts_of}
use Rattle.m2_mailbox.specs.Views.{put_by}
use Rattle.m2_mailbox.specs.declared.passes.PutPass.{PutPass}
use Rattle.m2_script.specs.m2_center.Center.{CenterNow}
use Rattle.m2_node.specs.Dispatching.{Mail}
use Rattle.m2_node.specs.Handing.{HasHandedNothing, IsSending}
use Rattle.m2_node.specs.Begins.{AreBeginning, IsBeginning}
use Rattle.m2_node.specs.Sharing.{ShareNow}
use Rattle.m2_node.specs.declared.planning.StepTowards.{StepTowards}
use Rattle.m2_scenario.specs.declared.link.Link.{Link}
use Rattle.m2_scenario.specs.declared.node.Node.{Node}
use Rattle.m2_node.specs.Working.{AreGrouped, WorkerNow}

abbrev Center : Type 0
Center = CenterNow (List Logged)

-- ---- a sender

-- it has put the first that waits into the mail
pub sends_one : (mail : Mail) (w : WorkerNow) (put next : PutPass Parcel Ids) (x : Parcel) (waiting rest : List Parcel) → waiting ≡ x ∷ rest → IsPutPassOf mail next → parts_of next ≡ parts_of put →
    puts_of next ≡ put_by x (puts_of put) → IsSending mail (record { worker = w; put = put; waiting = waiting }) → IsSending mail (record { worker = w; put = next; waiting = rest })
sends_one mail w put next x waiting rest first ours parts puts s = record {
  owner = s.owner;
  shared = s.shared;
  ours = ours;
  whole = parts ∙ s.whole;
  room = s.room;
  own = s.own ++ x ∷ [];
  puts = puts ∙ ap (put_by x) s.puts;
  handed = s.handed ∙ ap heard_for_all (ap (λ ps. s.own ++ ps) first ∙ sym (append_assoc s.own (x ∷ []) rest));
}

-- a mail that was full for a pass was so for another that has put the same
pub full_still : (mail : Mail) (put next : PutPass Parcel Ids) → parts_of next ≡ parts_of put → puts_of next ≡ puts_of put → WasFull mail put → WasFull mail next
full_still mail put next parts puts full whole =
    let f = full (sym parts ∙ whole) in
    (f.0, f.1, f.2, subst (λ ps. IsMerge Parcel ps (f.0 ++ f.1)) (sym puts) f.3)

-- ---- before the first turn

-- a center that has done nothing has handed on nothing
begins_with_nothing : (nodes : List Node) (links : List Link) (steps : List StepTowards) (k j word : ℕ) (x : Node) (c : Center) → IsBeginning nodes links steps k j word x c → c.queued.inner ≡ []
begins_with_nothing nodes links steps k j word x c b = ap (λ (d : Center). d.queued.inner) b.center

pub nothing_handed : (nodes : List Node) (links : List Link) (steps : ℕ → List StepTowards) (k : ℕ) (xs : List Node) (shares : List ShareNow) (ws : List WorkerNow) → AreGrouped xs shares ws →
    AreBeginning nodes links steps k xs ws → AllByRecursion HasHandedNothing ws
nothing_handed nodes links steps k [] [] ws groups begins = subst (AllByRecursion HasHandedNothing) (sym groups) tt
nothing_handed nodes links steps k [] (s ∷ shares) ws groups begins = absurd groups
nothing_handed nodes links steps k (x ∷ xs) [] ws groups begins = absurd groups
nothing_handed nodes links steps k (x ∷ xs) (s ∷ shares) ws groups begins =
    let first : AllByRecursion HasHandedNothing (take x.centers ws) = all_by_places HasHandedNothing (take x.centers ws) (λ i w here. begins_with_nothing nodes links (steps k) k (0 + i) begins.0.0 x w.center (begins.0.1 i w here)) in
    let rest = nothing_handed nodes links steps (suc k) xs shares (drop x.centers ws) groups.1 begins.1 in
    subst (AllByRecursion HasHandedNothing) (take-append-drop x.centers ws) (all_append HasHandedNothing (take x.centers ws) (drop x.centers ws) first rest)
