-- What an end of a link got by the end of a turn, the other end of the link had put before it.
use Rattle.std.proofs.Common.{◌≡◌, ℕ, Bool, true, false, not, List, [], ◌∷◌, ◌++◌, map, Option, Some, None, refl, sym, ap, subst, ◌∙◌, ◌⊎◌, inl, inr}
use Rattle.std.specs.Prelude.{◌||◌, IfSome, IsSome, slice_get}
use Rattle.std.specs.List.{AllByRecursion, IsDistinct}
use Rattle.std.specs.Option.{option_map}
use Rattle.m2_fabric.specs.declared.socket.SocketId.{SocketId}
use Rattle.m2_fabric.specs.End.{Inflow, SeenEnd}
use Rattle.m2_fabric.specs.Log.{Log, nothing_done}
use Rattle.m2_fabric.specs.Sockets.{goes_to, is_among, same_socket}
use Rattle.m2_links_go_on.specs.m2_growth.Ends.{EndGrowsTo, IsNewborn, come_to}
use Rattle.m2_links_go_on.specs.m2_growth.Halves.{IsOneOf, all_left, asked_on}
use Rattle.m2_links_go_on.specs.m2_growth.Holding.{Holding, all_ends, waiting_at}
use Rattle.m2_links_go_on.proofs.m2_growth.Among.{each_by, of_each}
use Rattle.m2_links_go_on.specs.m2_history.Woven.{EndNow, bytes_at, end_of, half_end, knows}
use Rattle.m2_links_go_on.specs.m2_growth.Turn.{AllEndsGrow}
use Rattle.m2_links_go_on.specs.m2_weave.m2_journal.declared.entry.Entry.{Entry}
use Rattle.m2_links_go_on.specs.m2_weave.m2_journal.declared.entry.Entry.TheVariants as entry
use Rattle.m2_links_go_on.proofs.Ends.{its_bytes}
use Rattle.m2_links_go_on.proofs.Going.{IsKnown}
use Rattle.m2_links_go_on.proofs.Nodes as nodes
use Rattle.m2_links_go_on.proofs.LinkRecords.{knows_kind}
use Rattle.m2_script.specs.m2_record.RecordNow.{RecordNow, ends_of}
use Rattle.m2_script.specs.m2_record.Sources.{end_at}
use Rattle.m2_fabric.specs.InStep.{IsUnread}
use Rattle.m2_fabric.specs.Kept.{is_kept}
use Rattle.m2_fabric.specs.Meeting.{comes_from}
use Rattle.m2_lives.specs.m2_bytes_fit.m2_trail.Arrivals.{LooseNow}
use Rattle.m2_links_go_on.specs.m2_weave.Later.{GoesOn}
use Rattle.m2_links_go_on.specs.m2_weave.Strands.{has_opened, journal_of}
use Rattle.m2_links_go_on.specs.m2_history.WovenLink.{same_end}
use Rattle.m2_promise.specs.Running.{IsNodeAt, IsRunning, RunNow}
use Rattle.m2_promise.proofs.BothEnds.{IsCome, IsGone, came_first, come, gone, holds, in_memory}
use Rattle.m2_promise.proofs.Openers as node
use Rattle.m2_promise.proofs.Openers.{IsOpener, Whose, end_found, whose_end}
use Rattle.m2_promise.proofs.Places.{comes_one, goes_one}
use Rattle.m2_promise.proofs.Towards as link
use Rattle.m2_promise.proofs.Towards.{AreTowards, turned}
use Rattle.m2_fabric.proofs.m2_lemmas.Lists.{all_map}
use Rattle.m2_fabric.proofs.m2_lemmas.Booleans.{not_true_is_false, false_isnt_true}

-- ---- lists

empty_first : (xs ys : List ℕ) → xs ++ ys ≡ [] → xs ≡ []
empty_first [] ys e = refl
empty_first (x ∷ xs) ys e = absurd cc

pub none_goes : (xs ys : List ℕ) → xs ≡ [] → GoesOn xs ys
none_goes xs ys e = (ys, ap (λ l. l ++ ys) (sym e))

-- what a journal opened it knows
opened_knows : (es : List Entry) (k : SocketId) → has_opened (journal_of es) k ≡ true → knows es k ≡ true
opened_knows [] k h = absurd (false_isnt_true h)
opened_knows (entry.Opened x ∷ es) k h = at (same_socket k x) h (opened_knows es k)
  where
    at : (b : Bool) → b || has_opened (journal_of es) k ≡ true → (has_opened (journal_of es) k ≡ true → knows es k ≡ true) → b || knows es k ≡ true
    at true h rest = refl
    at false h rest = rest h
opened_knows (entry.Judged x ask number answer ∷ es) k h = within (same_socket k x) (opened_knows es k h)
  where
    within : (b : Bool) → knows es k ≡ true → b || knows es k ≡ true
    within true h = refl
    within false h = h
opened_knows (e ∷ es) k h = opened_knows es k h

-- ---- an end to which nothing came

newborn_got : (e : SeenEnd) → IsNewborn e → IsSome e.inflow → e.log.got ≡ []
newborn_got e new some = at e.inflow some new
  where
    at : (i : Option Inflow) → IsSome i → IfSome (option_map (λ (i : Inflow). e.log.got ++ i.readable) i) (λ bytes. bytes ≡ []) → e.log.got ≡ []
    at None some new = absurd (false_isnt_true some)
    at (Some i) some new = empty_first e.log.got i.readable new

-- of what was there, and what is: the end that was, or nothing came
grown : (o p : Option SeenEnd) (e : SeenEnd) → EndGrowsTo o p → IfSome p (λ f. IsSome f.inflow) → p ≡ Some e → (e.log.got ≡ []) ⊎ ((d : SeenEnd) × (o ≡ Some d) × (come_to e ≡ come_to d))
grown o None e g m h = absurd cc
grown None (Some f) e g m h = let same : f ≡ e = cc in inl (subst (λ (y : SeenEnd). y.log.got ≡ []) same (newborn_got f g m))
grown (Some d) (Some f) e g m h = let same : f ≡ e = cc in inr (d, refl, subst (λ (y : SeenEnd). come_to y ≡ come_to d) same g.come)

-- ---- one side of a link

-- what the end got, the other end of the link had put
abbrev pub HadCome : List EndNow → EndNow → Type 0
HadCome ends d = GoesOn d.got (bytes_at d.socket (not d.opener) ends).put

-- an end of this node, later
record IsEndLater (old new : RunNow) (i : ℕ) (h0 h : Holding) (k : SocketId) (e : SeenEnd) : Type 0 where
  end : SeenEnd
  was : end_at (all_ends h0) k ≡ Some end
  come : come_to e ≡ come_to end
  memory : IsSome (come_to end)
  kept : is_kept k old.fabric.pairs ≡ true

module _ (old new : RunNow) (run : IsRunning old) (now : IsRunning new) (fabric : new.fabric ≡ old.fabric) (grow : AllEndsGrow old.holder new.holder)
    (i j : ℕ) (h0 h g0 g : Holding) (a0 a b0 b : RecordNow) (was : AreTowards old i j h0 g0 a0 b0) (is : AreTowards new i j h g a b)
    (near_at : h.port.at ≡ h0.port.at) (far_at : g.port.at ≡ g0.port.at)
    (ends : List EndNow) (apart : IsDistinct same_end ends)
    (of_side : (e : SeenEnd) → IsOneOf e (ends_of b0) → IsOneOf (end_of b0.journal e) ends)
    (of_half : (l : LooseNow) → IsOneOf l (all_left g0.halves) → knows a0.journal l.end.id ≡ true → IsOneOf (half_end l) ends) where
  -- an end of the node by the end of the turn: it was there before, or nothing came to it
  end_before : (k : SocketId) (e : SeenEnd) → end_at (all_ends h) k ≡ Some e → (e.log.got ≡ []) ⊎ IsEndLater old new i h0 h k e
  end_before k e at = by (is_kept k old.fabric.pairs) refl
    where
      there : new.holder.ends i k ≡ Some e
      there = holds new now i h k e is.near at

      was_grown : (e.log.got ≡ []) ⊎ ((d : SeenEnd) × (old.holder.ends i k ≡ Some d) × (come_to e ≡ come_to d))
      was_grown = grown (old.holder.ends i k) (new.holder.ends i k) e (grow.ends i k) (grow.memory i k) there

      kept_so : is_kept k old.fabric.pairs ≡ true → (e.log.got ≡ []) ⊎ ((d : SeenEnd) × (old.holder.ends i k ≡ Some d) × (come_to e ≡ come_to d)) → (e.log.got ≡ []) ⊎ IsEndLater old new i h0 h k e
      kept_so kept (inl none) = inl none
      kept_so kept (inr d) = inr (record {
        end = d.0;
        was = sym (run.holds.ends i h0 was.near k) ∙ d.1;
        come = d.2;
        memory = in_memory (old.holder.ends i k) (new.holder.ends i k) d.0 (grow.ends i k) (grow.memory i k) d.1;
        kept = kept;
      })

      by : (b : Bool) → is_kept k old.fabric.pairs ≡ b → (e.log.got ≡ []) ⊎ IsEndLater old new i h0 h k e
      by true kept = kept_so kept was_grown
      by false other =
          let unread : IsUnread e = subst (λ o. IfSome o IsUnread) there (now.in_step.others (record { node = i; id = k }) (ap (λ f. is_kept k f.pairs) fabric ∙ other)) in
          inl unread.got

  -- the bytes of the other record's end
  side_put : (k : SocketId) (o : Bool) (f : SeenEnd) → end_at (ends_of b0) k ≡ Some f → has_opened (journal_of b0.journal) k ≡ o → (bytes_at k o ends).put ≡ f.log.put
  side_put k o f at opened =
      let found = end_found (ends_of b0) k f at in
      ap (λ n. (bytes_at n o ends).put) found.socket
      ∙ ap (λ c. (bytes_at f.id c ends).put) (sym opened ∙ ap (has_opened (journal_of b0.journal)) found.socket)
      ∙ ap (λ bytes. bytes.put) (its_bytes (end_of b0.journal f) ends apart (of_side f found.there))

  -- where a record is the other one
  opener_put : (k : SocketId) (f : SeenEnd) (r : RecordNow) → r ≡ b0 → end_at (ends_of r) k ≡ Some f → has_opened (journal_of r.journal) k ≡ true → (bytes_at k true ends).put ≡ f.log.put
  opener_put k f r same at opened =
      side_put k true f (ap (λ (s : RecordNow). end_at (ends_of s) k) (sym same) ∙ at) (ap (λ (s : RecordNow). has_opened (journal_of s.journal) k) (sym same) ∙ opened)

  asker_put : (k : SocketId) (f : SeenEnd) (r : RecordNow) → r ≡ b0 → end_at (ends_of r) k ≡ Some f → goes_to g0.port.at k ≡ true → (bytes_at k false ends).put ≡ f.log.put
  asker_put k f r same at goes =
      side_put k false f (ap (λ (s : RecordNow). end_at (ends_of s) k) (sym same) ∙ at)
      (not_true_is_false (has_opened (journal_of b0.journal) k) (λ o. false_isnt_true (sym (node.opened_away old.fabric.nodes j g0 (run.nodes j g0 was.far) b0 was.theirs k o) ∙ goes)))

  half_put : (k : SocketId) (f : SeenEnd) (l : LooseNow) → k ≡ f.id → IsOneOf l (all_left g0.halves) → f ≡ l.end → (r : RecordNow) → r ≡ a0 → has_opened (journal_of r.journal) k ≡ true →
      (bytes_at k false ends).put ≡ f.log.put
  half_put k f l named one end r is_a opened =
      let same : k ≡ l.end.id = named ∙ ap (λ (x : SeenEnd). x.id) end in
      let opened_there : has_opened (journal_of a0.journal) k ≡ true = ap (λ (s : RecordNow). has_opened (journal_of s.journal) k) (sym is_a) ∙ opened in
      ap (λ n. (bytes_at n false ends).put) same
      ∙ ap (λ bytes. bytes.put) (its_bytes (half_end l) ends apart (of_half l one (ap (knows a0.journal) (sym same) ∙ opened_knows a0.journal k opened_there))) ∙ ap (λ (x : SeenEnd). x.log.put) (sym end)

  -- what is at the other node's place is the other node
  far_is : (n : ℕ) (x : Holding) → slice_get old.holdings n ≡ Some x → n ≡ j → x ≡ g0
  far_is n x there same =
      let here : slice_get old.holdings j ≡ Some x = ap (slice_get old.holdings) (sym same) ∙ there in
      let far_there : slice_get old.holdings j ≡ Some g0 = was.far in
      cc

  -- ---- a socket that comes from the other node

  arrived : (k : SocketId) (e : SeenEnd) → end_at (all_ends h) k ≡ Some e → goes_to h.port.at k ≡ true → comes_from k (Some g.port.at) ≡ true → GoesOn e.log.got (bytes_at k true ends).put
  arrived k e at goes comes = by (end_before k e at)
    where
      goes_there : goes_to h0.port.at k ≡ true
      goes_there = ap (λ p. goes_to p k) (sym near_at) ∙ goes

      comes_thence : comes_from k (Some g0.port.at) ≡ true
      comes_thence = ap (λ p. comes_from k (Some p)) (sym far_at) ∙ comes

      of_opener : (d : SeenEnd) → come_to e ≡ come_to d → IsSome (come_to d) → (c : IsCome old k d) → c.near ≡ g0 → GoesOn e.log.got (bytes_at k true ends).put
      of_opener d same memory c near_is =
          let opener : IsOpener g0 k c.end = subst (λ n. IsOpener n k c.end) near_is c.opener in
          let side_is : opener.side ≡ b0 = link.opener_is old run j i g0 h0 b0 a0 (turned old i j h0 g0 a0 b0 was) k opener.side opener.there opener.opened goes_there in
          subst (GoesOn e.log.got) (sym (opener_put k c.end opener.side side_is opener.end opener.opened)) (came_first e d c.end.log.put same memory c.came)

      by : (e.log.got ≡ []) ⊎ IsEndLater old new i h0 h k e → GoesOn e.log.got (bytes_at k true ends).put
      by (inl none) = none_goes e.log.got (bytes_at k true ends).put none
      by (inr d) =
          let c = come old run i h0 was.near k d.kept d.end d.was goes_there in
          of_opener d.end d.come d.memory c
          (far_is c.from c.near c.there (comes_one old.fabric.nodes c.from j c.near.port.at g0.port.at k run.apart (run.nodes c.from c.near c.there).at (run.nodes j g0 was.far).at c.comes comes_thence))

  -- ---- a socket that this record opened

  left : (k : SocketId) (e : SeenEnd) → end_at (all_ends h) k ≡ Some e → comes_from k (Some h.port.at) ≡ true → goes_to g.port.at k ≡ true → goes_to h.port.at k ≡ false → GoesOn e.log.got (bytes_at k false ends).put
  left k e at comes goes away = by (end_before k e at)
    where
      comes_thence : comes_from k (Some h0.port.at) ≡ true
      comes_thence = ap (λ p. comes_from k (Some p)) (sym near_at) ∙ comes

      goes_there : goes_to g0.port.at k ≡ true
      goes_there = ap (λ p. goes_to p k) (sym far_at) ∙ goes

      away_then : goes_to h0.port.at k ≡ false
      away_then = ap (λ p. goes_to p k) (sym near_at) ∙ away

      of_other : (d : SeenEnd) → end_at (all_ends h0) k ≡ Some d → (f : SeenEnd) → k ≡ f.id → GoesOn e.log.got f.log.put → Whose g0 k f → GoesOn e.log.got (bytes_at k false ends).put
      of_other d here f named on (inl held) =
          let asked = node.end_asked old.fabric.nodes j g0 (run.nodes j g0 was.far) held.side held.there k f held.end goes_there in
          let side_is : held.side ≡ b0 = link.asker_is old run j i g0 h0 b0 a0 (turned old i j h0 g0 a0 b0 was) k held.side held.there asked comes_thence in
          subst (GoesOn e.log.got) (sym (asker_put k f held.side side_is held.end goes_there)) on
      of_other d here f named on (inr (inl half)) =
          let opener : IsOpener h0 k d = node.opener_of old.fabric.nodes i h0 (run.nodes i h0 was.near) k d here away_then in
          let side_is : opener.side ≡ a0 = link.opener_is old run i j h0 g0 a0 b0 was k opener.side opener.there opener.opened goes_there in
          subst (GoesOn e.log.got) (sym (half_put k f half.half named half.there half.end opener.side side_is opener.opened)) on
      of_other d here f named on (inr (inr waits)) =
          let none : f.log ≡ nothing_done = of_each (λ (x : SeenEnd). x.log ≡ nothing_done) f (waiting_at g0.port) (run.nodes j g0 was.far).waiting waits.there in
          let empty : e.log.got ≡ [] = empty_first e.log.got on.0 (sym on.1 ∙ ap (λ (l : Log). l.put) none) in
          none_goes e.log.got (bytes_at k false ends).put empty

      of_gone : (d : SeenEnd) → end_at (all_ends h0) k ≡ Some d → come_to e ≡ come_to d → IsSome (come_to d) → (c : IsGone old k d) → GoesOn e.log.got (bytes_at k false ends).put
      of_gone d here same memory c =
          let to_is : c.to ≡ j = goes_one old.fabric.nodes c.to j c.far.port.at g0.port.at k run.apart (run.nodes c.to c.far c.there).at (run.nodes j g0 was.far).at c.goes goes_there in
          let same_far : c.far ≡ g0 = far_is c.to c.far c.there to_is in
          let at_far : end_at (all_ends g0) k ≡ Some c.end = ap (λ (n : Holding). end_at (all_ends n) k) (sym same_far) ∙ c.at in
          of_other d here c.end (end_found (all_ends g0) k c.end at_far).socket (came_first e d c.end.log.put same memory c.came) (whose_end g0 k c.end at_far)

      by : (e.log.got ≡ []) ⊎ IsEndLater old new i h0 h k e → GoesOn e.log.got (bytes_at k false ends).put
      by (inl none) = none_goes e.log.got (bytes_at k false ends).put none
      by (inr d) = of_gone d.end d.was d.come d.memory (gone old run i h0 was.near k d.kept d.end d.was comes_thence)

  -- ---- all ends of this side

  abbrev here : IsNodeAt new.fabric.nodes i h
  here = link.here new now i j h g a b is

  of_kind : (e : SeenEnd) → IsOneOf e (ends_of a) → (has_opened (journal_of a.journal) e.id ≡ true) ⊎ (is_among e.id (asked_on a) ≡ true) → HadCome ends (end_of a.journal e)
  of_kind e one (inl opened) =
      let goes : goes_to g.port.at e.id ≡ true = ap (λ p. goes_to p e.id) (sym (link.peer_is new now i j h g a b is)) ∙ node.opened_goes new.fabric.nodes i h here a is.mine e.id opened in
      subst (λ o. GoesOn e.log.got (bytes_at e.id (not o) ends).put) (sym opened)
      (left e.id e (nodes.held_at h here.node a is.mine e.id e (nodes.own_at h here.node a is.mine e one)) (node.opened_comes new.fabric.nodes i h here a is.mine e.id opened) goes
      (node.opened_away new.fabric.nodes i h here a is.mine e.id opened))
  of_kind e one (inr asked) =
      let goes : goes_to h.port.at e.id ≡ true = node.asked_goes new.fabric.nodes i h here a is.mine e.id asked in
      let unopened : has_opened (journal_of a.journal) e.id ≡ false =
      not_true_is_false (has_opened (journal_of a.journal) e.id) (λ o. false_isnt_true (sym (node.opened_away new.fabric.nodes i h here a is.mine e.id o) ∙ goes)) in
      subst (λ o. GoesOn e.log.got (bytes_at e.id (not o) ends).put) (sym unopened)
      (arrived e.id e (nodes.held_at h here.node a is.mine e.id e (nodes.own_at h here.node a is.mine e one)) goes (link.asked_comes new now i j h g a b is e.id asked))

  pub side_came : AllByRecursion (HadCome ends) (map (end_of a.journal) (ends_of a))
  side_came =
      all_map (HadCome ends) (end_of a.journal) (ends_of a)
      (each_by (λ (e : SeenEnd). HadCome ends (end_of a.journal e)) (ends_of a)
      (λ e one. of_kind e one (node.end_kind new.fabric.nodes i h here a is.mine e.id e (nodes.own_at h here.node a is.mine e one))))

  pub half_came : (l : LooseNow) → IsOneOf l (all_left h.halves) → IsKnown a.journal b.journal l → HadCome ends (half_end l)
  half_came l one known = arrived l.end.id l.end (nodes.half_at h here.node l one) goes (by known)
    where
      goes : goes_to h.port.at l.end.id ≡ true
      goes = of_each (λ (x : LooseNow). goes_to h.port.at x.end.id ≡ true) l (all_left h.halves) here.node.own.here one

      mine : (has_opened (journal_of a.journal) l.end.id ≡ true) ⊎ (is_among l.end.id (asked_on a) ≡ true) → comes_from l.end.id (Some g.port.at) ≡ true
      mine (inl o) = absurd (false_isnt_true (sym (node.opened_away new.fabric.nodes i h here a is.mine l.end.id o) ∙ goes))
      mine (inr asked) = link.asked_comes new now i j h g a b is l.end.id asked

      theirs : (has_opened (journal_of b.journal) l.end.id ≡ true) ⊎ (is_among l.end.id (asked_on b) ≡ true) → comes_from l.end.id (Some g.port.at) ≡ true
      theirs (inl o) = node.opened_comes new.fabric.nodes j g (link.there new now i j h g a b is) b is.theirs l.end.id o
      theirs (inr asked) =
          absurd (link.goes_apart new now i j h g a b is l.end.id goes (node.asked_goes new.fabric.nodes j g (link.there new now i j h g a b is) b is.theirs l.end.id asked))

      by : IsKnown a.journal b.journal l → comes_from l.end.id (Some g.port.at) ≡ true
      by (inl k) = mine (knows_kind l.end.id a.journal k)
      by (inr k) = theirs (knows_kind l.end.id b.journal k)
