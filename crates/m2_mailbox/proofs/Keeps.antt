-- Each step of an inbox keeps the rule of its queue.
use Rattle.std.proofs.Common.{◌≡◌, ◌≢◌, ℕ, zero, suc, ◌+◌, ◌<◌, inl, inr, ⊎_elim, Bool, true, false, true≢false, Option, Some, None, List, [], ◌∷◌, ◌++◌, length, set, drop, sum_by, cond, refl, sym, ap, ◌∙◌, subst, append_assoc, arith}
use Rattle.std.specs.List.{All}
use Rattle.std.specs.Mem.{manually_drop_value}
use Rattle.std.proofs.lemmas.List.Elements.{All-head, All-tail, All-cons, All-nil, All-append, All-push, All-weaker}
use Rattle.std.proofs.lemmas.List.Sums.{sum_by-cons, sum_by-append}
use mathlib.Core.Option.{some, some-injective, some-ne-none}
use lib.ListN.{get_elem?}
use Rattle.crossbeam_queue.specs.Fifo.{Pushes, Pops, Forks, Merges, Learns}
use Rattle.crossbeam_queue.proofs.Lists.{at_set, at_snoc}
use Rattle.m2_mailbox.specs.Merge.{IsSublist, IsMerge}
use Rattle.m2_mailbox.specs.Views.{all_parts, put_by, owner_in, parts_in, puts_in, takes_in, takers_in, taken_in, after_telling, after_hearing, after_put, after_take, without_part, one_part, put_right, take_right, joined, reunited}
use Rattle.m2_mailbox.specs.Rule.{AreItems, weight_in, Fits, IsOpen, Kept, PutsItem, TakesItem, SeesHeld, SeesRest}
use Rattle.m2_mailbox.specs.declared.slip.Slip.{Slip}
use Rattle.m2_mailbox.specs.declared.slip.Slip.TheVariants.{Owner, Item}
use Rattle.m2_mailbox.specs.declared.view.Known.{Known}
use Rattle.m2_mailbox.specs.declared.view.View.{View}
use Rattle.m2_mailbox.specs.declared.view.View.TheVariants.{Fresh, Telling, Open, Spent}
use Rattle.m2_mailbox.proofs.Sublists.{sub_nil, sub_longer, sub_push}
use Rattle.m2_mailbox.proofs.Totals.{total_set, two_at, has_all}

module _ {T : Type 0} where
  weight_put : (h : T → ℕ) (x : T) (puts : List (List T)) → sum_by (sum_by h) (put_by x puts) ≡ sum_by (sum_by h) puts + h x
  weight_put h x [] = omega (arith, sum_by-cons (sum_by h) (x ∷ []) [], sum_by-cons h x [])
  weight_put h x (own ∷ joined) =
      omega (arith, sum_by-cons (sum_by h) (own ++ x ∷ []) joined, sum_by-cons (sum_by h) own joined, sum_by-append h own (x ∷ []), sum_by-cons h x [])

  in_order_put : (x : T) (puts : List (List T)) (sent : List T) → All (λ list. IsSublist list sent) puts
      → All (λ list. IsSublist list (sent ++ x ∷ [])) (put_by x puts)
  in_order_put x [] sent h = All-cons (λ list. IsSublist list (sent ++ x ∷ [])) (x ∷ []) [] (sub_push [] sent x (sub_nil sent)) (All-nil (λ list. IsSublist list (sent ++ x ∷ [])))
  in_order_put x (own ∷ joined) sent h =
      let P : List T → Type 0 = λ list. IsSublist list sent in
      let Q : List T → Type 0 = λ list. IsSublist list (sent ++ x ∷ []) in
      All-cons Q (own ++ x ∷ []) joined (sub_push own sent x (All-head P own joined h)) (All-weaker P Q (λ l s. sub_longer l sent x s) joined (All-tail P own joined h))

module _ {O : Type 0} where
  abbrev owner_or : O → Option O → O
  owner_or d (Some y) = y
  owner_or d None = d

  some_owner : (p o : O) → Some p ≡ Some o → p ≡ o
  some_owner p o e = ap (λ (x : Option O). owner_or p x) e

module _ {T O : Type 0} where
  -- what each pass knows
  abbrev AllFit : (View T O → Type 0) → List (View T O) → Type 0
  AllFit F views = (port : ℕ) (v : View T O) → get_elem? views port ≡ some v → F v

  fit_set : (F : View T O → Type 0) (views : List (View T O)) (port : ℕ) (w : View T O) → F w
      → ((j : ℕ) (u : View T O) → j ≢ port → get_elem? views j ≡ some u → F u) → AllFit F (set views port w)
  fit_set F views port w mine others j u e =
      ⊎_elim (λ (x : (j ≡ port) × (w ≡ u)). subst F x.1 mine) (λ (x : (j ≢ port) × (get_elem? views j ≡ some u)). others j u x.0 x.1) (at_set views port j w u e)

  fit_snoc : (F : View T O → Type 0) (views : List (View T O)) (w : View T O) → F w → AllFit F views → AllFit F (views ++ w ∷ [])
  fit_snoc F views w mine others j u e = ⊎_elim (others j u) (λ (x : w ≡ u). subst F x mine) (at_snoc views w u j e)

  one_view : (w : View T O) (port : ℕ) (v : View T O) → get_elem? (w ∷ []) port ≡ some v → w ≡ v
  one_view w zero v e = some-injective w v e
  one_view w (suc port) v e = absurd (some-ne-none v (sym e))

  one_set : (w : View T O) (port : ℕ) (v u : View T O) → get_elem? (w ∷ []) port ≡ some v → set (w ∷ []) port u ≡ u ∷ []
  one_set w zero v u e = refl
  one_set w (suc port) v u e = absurd (some-ne-none v (sym e))

  -- the only pass, and what stands in its place
  only_view : (views : List (View T O)) (w : View T O) (port : ℕ) (v : View T O) → views ≡ w ∷ [] → get_elem? views port ≡ some v → w ≡ v
  only_view views w port v only at = one_view w port v (ap (λ (l : List (View T O)). get_elem? l port) (sym only) ∙ at)

  only_set : (views : List (View T O)) (w : View T O) (port : ℕ) (v u : View T O) → views ≡ w ∷ [] → get_elem? views port ≡ some v → set views port u ≡ u ∷ []
  only_set views w port v u only at = ap (λ (l : List (View T O)). set l port u) only ∙ one_set w port v u (ap (λ (l : List (View T O)). get_elem? l port) (sym only) ∙ at)

  -- ---- what the queue holds, as items

  items_push : (slips : List (Slip T O)) (held : List T) (m : _) → AreItems slips held → AreItems (slips ++ Item m ∷ []) (held ++ manually_drop_value m ∷ [])
  items_push [] held m is = ([], ap (λ (l : List T). l ++ manually_drop_value m ∷ []) is, refl)
  items_push (Owner t ∷ slips) held m is = absurd is
  items_push (Item n ∷ slips) held m is =
      (is.0 ++ manually_drop_value m ∷ [], ap (λ (l : List T). l ++ manually_drop_value m ∷ []) is.1, items_push slips is.0 m is.2)

  pub items_length : (slips : List (Slip T O)) (held : List T) → AreItems slips held → length held ≡ length slips
  items_length [] held is = ap length is
  items_length (Owner t ∷ slips) held is = absurd is
  items_length (Item n ∷ slips) held is = let r = items_length slips is.0 is.2 in let e : length held ≡ length (manually_drop_value n ∷ is.0) = ap length is.1 in omega arith

  abbrev is_fresh : View T O → Bool
  is_fresh Fresh = true
  is_fresh _ = false

  abbrev is_telling : View T O → Bool
  is_telling (Telling p) = true
  is_telling _ = false

  -- who has both rights knows the puts of the one pass and the takes of the other
  pub reunited_knows : (v w : View T O) → 0 < parts_in v → takes_in w ≡ true
      → (parts_in (reunited v w) ≡ parts_in v) × (takes_in (reunited v w) ≡ true) × (puts_in (reunited v w) ≡ puts_in v) × (taken_in (reunited v w) ≡ taken_in w)
  reunited_knows (Open k) (Open l) some_part may = (refl, may, refl, refl)
  reunited_knows (Open k) Fresh some_part may = absurd (true≢false (sym may))
  reunited_knows (Open k) (Telling o) some_part may = absurd (true≢false (sym may))
  reunited_knows (Open k) Spent some_part may = absurd (true≢false (sym may))
  reunited_knows Fresh w some_part may = absurd (omega arith)
  reunited_knows (Telling o) w some_part may = absurd (omega arith)
  reunited_knows Spent w some_part may = absurd (omega arith)

  module _ (belongs : O → T → Type 0) where
    fits_longer : (owner : O) (sent taken : List T) (x : T) (v : View T O) → Fits belongs owner sent taken v → Fits belongs owner (sent ++ x ∷ []) taken v
    fits_longer owner sent taken x (Open k) h =
        (h.0, All-weaker (λ list. IsSublist list sent) (λ list. IsSublist list (sent ++ x ∷ [])) (λ l' s. sub_longer l' sent x s) k.puts h.1, h.2, h.3)
    fits_longer owner sent taken x Spent h = tt
    fits_longer owner sent taken x Fresh h = absurd h
    fits_longer owner sent taken x (Telling o) h = absurd h

    -- who may not take knows nothing of what was taken
    fits_taken : (owner : O) (sent taken now : List T) (v : View T O) → takers_in v ≡ 0 → Fits belongs owner sent taken v → Fits belongs owner sent now v
    fits_taken owner sent taken now (Open k) none h = (h.0, h.1, h.2, λ (t : k.takes ≡ true). absurd (let one : takers_in (Open k) ≡ 1 = ap (λ (b : Bool). cond b 1 0) t in omega arith))
    fits_taken owner sent taken now Spent none h = tt
    fits_taken owner sent taken now Fresh none h = absurd h
    fits_taken owner sent taken now (Telling o) none h = absurd h

    -- who has no part has put nothing
    light : (owner : O) (sent taken : List T) (h : T → ℕ) (v : View T O) → Fits belongs owner sent taken v → parts_in v ≡ 0 → weight_in h v ≡ 0
    light owner sent taken h (Open k) f none = ap (λ (x : List (List T)). sum_by (sum_by h) x) (f.2 none)
    light owner sent taken h Spent f none = refl
    light owner sent taken h Fresh f none = refl
    light owner sent taken h (Telling o) f none = refl

    -- a pass of an inbox is there, so the inbox is open
    opened : (items : List (Slip T O)) (views : List (View T O)) (port : ℕ) (k : Known T O) → Kept belongs items views → get_elem? views port ≡ some (Open k) → IsOpen belongs items views
    opened items views port k (inl (is, only)) at = absurd (true≢false (ap is_fresh (only_view views Fresh port (Open k) only at)))
    opened items views port k (inr (inl (o, told, is, held, only))) at =
        let e : Telling o ≡ Open k = only_view views (Telling o) port (Open k) only at in
        let P : View T O → Bool = λ v. is_telling v in absurd (true≢false (ap P e))
    opened items views port k (inr (inr h)) at = h

    -- ---- while the inbox is made

    pub tells : (n port : ℕ) (told : _) → Pushes (Kept belongs) n port Fresh (Owner told) (λ w. w ≡ after_telling (Owner told))
    tells n port told items views room (inl (is, only)) at =
        let w : View T O = Telling told.value in
        (w, inr (inl (told.value, told, refl, ap (λ (l : List (Slip T O)). l ++ Owner told ∷ []) is, only_set views Fresh port Fresh w only at)), refl)
    tells n port told items views room (inr (inl (o, t, is, held, only))) at =
        absurd (true≢false (ap is_fresh (sym (only_view views (Telling o) port Fresh only at))))
    tells n port told items views room (inr (inr h)) at = absurd (h.fits port Fresh at)

    -- the inbox is open from now on
    begun : (o : O) → IsOpen belongs [] (after_hearing (Telling o) ∷ [])
    begun o =
        record {
          owner = o;
          taken = [];
          held = [];
          items_are = refl;
          belong = All-nil (belongs o);
          parts = refl;
          takers = refl;
          weighs = λ weight. refl;
          fits = λ port v at. subst (Fits belongs o [] []) (one_view (after_hearing (Telling o)) port v at)
              (refl, All-cons (λ list. IsSublist list []) [] [] refl (All-nil (λ list. IsSublist list [])), (λ none. absurd (omega arith)), λ t. refl);
        }

    pub hears : (port : ℕ) (o : O) → Pops (Kept belongs) port (Telling o) (λ x w. w ≡ after_hearing (Telling o))
    hears port o x items views (inl (is, only)) at = let e : length (x ∷ items) ≡ 0 = ap length is in absurd (omega arith)
    hears port o x items views (inr (inl (p, t, is, held, only))) at =
        let w : View T O = after_hearing (Telling o) in
        let none : items ≡ [] = ap (drop 1) held in
        (w, inr (inr (subst (λ (y : List (Slip T O) × List (View T O)). IsOpen belongs y.0 y.1) (λ i. (sym none i, sym (only_set views (Telling p) port (Telling o) w only at) i)) (begun o))), refl)
    hears port o x items views (inr (inr h)) at = absurd (h.fits port (Telling o) at)

    -- ---- puts and takes

    -- who has all parts has put all that was sent
    merged : (items : List (Slip T O)) (views : List (View T O)) (port : ℕ) (k : Known T O) → get_elem? views port ≡ some (Open k) → k.parts ≡ all_parts
        → (r : IsOpen belongs items views) → IsMerge T k.puts (r.taken ++ r.held)
    merged items views port k at all r =
        record {
          weighs = λ weight.
              let own : sum_by (weight_in weight) views ≡ sum_by (sum_by weight) k.puts
              = has_all parts_in (weight_in weight) views port (Open k) at (λ j u e none. light r.owner (r.taken ++ r.held) r.taken weight u (r.fits j u e) none) (r.parts ∙ sym all) in
              sym own ∙ r.weighs weight;
          in_order = (r.fits port (Open k) at).1;
        }

    pub puts : (n port : ℕ) (o : O) (v : View T O) (m : _) → owner_in v ≡ Some o → 0 < parts_in v → belongs o (manually_drop_value m)
        → Pushes (Kept belongs) n port v (Item m) (PutsItem v (Item m))
    puts n port o (Open k) m is_o some_part mine items views room h at =
        let x : T = manually_drop_value m in
        let r = opened items views port k h at in
        let fit = r.fits port (Open k) at in
        let w : View T O = after_put x (Open k) in
        let sent : List T = r.taken ++ r.held in
        let assoc : sent ++ x ∷ [] ≡ r.taken ++ (r.held ++ x ∷ []) = append_assoc r.taken r.held (x ∷ []) in
        let longer : (u : View T O) → Fits belongs r.owner sent r.taken u → Fits belongs r.owner (r.taken ++ (r.held ++ x ∷ [])) r.taken u
        = λ u f. subst (λ (l : List T). Fits belongs r.owner l r.taken u) assoc (fits_longer r.owner sent r.taken x u f) in
        let mine' : Fits belongs r.owner (sent ++ x ∷ []) r.taken w
        = (fit.0, in_order_put x k.puts sent fit.1, (λ none. absurd (omega arith)), fit.3) in
        let owns : belongs r.owner x = subst (λ (p : O). belongs p x) (sym (some_owner k.owner o is_o) ∙ fit.0) mine in (
          w,
          inr (inr (record {
            owner = r.owner;
            taken = r.taken;
            held = r.held ++ x ∷ [];
            items_are = items_push items r.held m r.items_are;
            belong = All-push (belongs r.owner) r.held x r.belong owns;
            parts = let t = total_set parts_in views port (Open k) w at in let p = r.parts in omega arith;
            takers = let t = total_set takers_in views port (Open k) w at in let p = r.takers in omega arith;
            weighs = λ weight.
                let t = total_set (weight_in weight) views port (Open k) w at in
                let p = r.weighs weight in
                let q = weight_put weight x k.puts in
                omega (arith, t, p, q, sum_by-append weight r.taken (r.held ++ x ∷ []), sum_by-append weight r.held (x ∷ []), sum_by-append weight r.taken r.held, sum_by-cons weight x []);
            fits = fit_set (Fits belongs r.owner (r.taken ++ (r.held ++ x ∷ [])) r.taken) views port w
                (subst (λ (l : List T). Fits belongs r.owner l r.taken w) assoc mine') (λ j u apart e. longer u (r.fits j u e));
          })),
          refl,
        )
    puts n port o Fresh m is_o some_part mine items views room h at = absurd (omega arith)
    puts n port o (Telling p) m is_o some_part mine items views room h at = absurd (omega arith)
    puts n port o Spent m is_o some_part mine items views room h at = absurd (omega arith)

    pub takes : (port : ℕ) (v : View T O) → takes_in v ≡ true → Pops (Kept belongs) port v (TakesItem belongs v)
    takes port (Open k) may (Owner t) items views h at = let r = opened (Owner t ∷ items) views port k h at in absurd r.items_are
    takes port (Open k) may (Item m) items views h at =
        let x : T = manually_drop_value m in
        let r = opened (Item m ∷ items) views port k h at in
        let fit = r.fits port (Open k) at in
        let rest : List T = r.items_are.0 in
        let is : r.held ≡ x ∷ rest = r.items_are.1 in
        let w : View T O = after_take x (Open k) in
        let now : List T = r.taken ++ x ∷ [] in
        let same : r.taken ++ r.held ≡ now ++ rest = ap (λ (l : List T). r.taken ++ l) is ∙ sym (append_assoc r.taken (x ∷ []) rest) in
        let all : All (belongs r.owner) (x ∷ rest) = subst (All (belongs r.owner)) is r.belong in
        let one : takers_in (Open k) ≡ 1 = ap (λ (b : Bool). cond b 1 0) may in
        let Seen : List T → List T → View T O → Type 0 = λ sent taken u. Fits belongs r.owner sent taken u in
        let mine : Seen (r.taken ++ r.held) now w = (fit.0, fit.1, fit.2, λ t. ap (λ (l : List T). l ++ x ∷ []) (fit.3 t)) in
        let others : (j : ℕ) (u : View T O) → j ≢ port → get_elem? views j ≡ some u → Seen (r.taken ++ r.held) now u
        = λ j u apart e. fits_taken r.owner (r.taken ++ r.held) r.taken now u
        (let t = two_at takers_in views port j (Open k) u apart at e in let p = r.takers in omega arith) (r.fits j u e) in (
          w,
          inr (inr (record {
            owner = r.owner;
            taken = now;
            held = rest;
            items_are = r.items_are.2;
            belong = All-tail (belongs r.owner) x rest all;
            parts = let t = total_set parts_in views port (Open k) w at in let p = r.parts in omega arith;
            takers = let t = total_set takers_in views port (Open k) w at in let p = r.takers in omega arith;
            weighs = λ weight.
                let t = total_set (weight_in weight) views port (Open k) w at in
                let p : sum_by (weight_in weight) views ≡ sum_by weight (now ++ rest) = r.weighs weight ∙ ap (λ (l : List T). sum_by weight l) same in
                omega arith;
            fits = subst (λ (l : List T). AllFit (Seen l now) (set views port w)) same (fit_set (Seen (r.taken ++ r.held) now) views port w mine others);
          })),
          (
            subst (λ (p : O). belongs p x) (sym fit.0) (All-head (belongs r.owner) x rest all),
            refl,
            λ whole. (
              rest,
              subst (λ (l : List T). IsMerge T k.puts l) (same ∙ ap (λ (l : List T). (l ++ x ∷ []) ++ rest) (sym (fit.3 may)))
                  (merged (Item m ∷ items) views port k at whole r),
            ),
          ),
        )
    takes port Fresh may x items views h at = absurd (true≢false (sym may))
    takes port (Telling p) may x items views h at = absurd (true≢false (sym may))
    takes port Spent may x items views h at = absurd (true≢false (sym may))

    -- ---- passes cut in two

    -- two stand in the place of one, and have together what it had
    cut : (items : List (Slip T O)) (views : List (View T O)) (r : IsOpen belongs items views) (port : ℕ) (v left right : View T O) → get_elem? views port ≡ some v
        → parts_in left + parts_in right ≡ parts_in v → takers_in left + takers_in right ≡ takers_in v
        → ((weight : T → ℕ) → weight_in weight left + weight_in weight right ≡ weight_in weight v)
        → Fits belongs r.owner (r.taken ++ r.held) r.taken left → Fits belongs r.owner (r.taken ++ r.held) r.taken right
        → IsOpen belongs items (set views port left ++ right ∷ [])
    cut items views r port v left right at parts takers weighs fits_left fits_right =
        let F : View T O → Type 0 = Fits belongs r.owner (r.taken ++ r.held) r.taken in
        record {
          owner = r.owner;
          taken = r.taken;
          held = r.held;
          items_are = r.items_are;
          belong = r.belong;
          parts =
              let t = total_set parts_in views port v left at in
              let p = r.parts in
              omega (arith, t, p, parts, sum_by-append parts_in (set views port left) (right ∷ []), sum_by-cons parts_in right []);
          takers =
              let t = total_set takers_in views port v left at in
              let p = r.takers in
              omega (arith, t, p, takers, sum_by-append takers_in (set views port left) (right ∷ []), sum_by-cons takers_in right []);
          weighs = λ weight.
              let t = total_set (weight_in weight) views port v left at in
              let p = r.weighs weight in
              let w = weighs weight in
              omega (arith, t, p, w, sum_by-append (weight_in weight) (set views port left) (right ∷ []), sum_by-cons (weight_in weight) right []);
          fits = fit_snoc F (set views port left) right fits_right (fit_set F views port left fits_left (λ j u apart e. r.fits j u e));
        }

    pub splits : (port : ℕ) (v : View T O) (o : O) → owner_in v ≡ Some o → 1 < parts_in v → Forks (Kept belongs) port v (without_part v) (one_part v)
    splits port (Open k) o is_o more items views h at =
        let r = opened items views port k h at in
        let fit = r.fits port (Open k) at in
        let InOrder : List T → Type 0 = λ list. IsSublist list (r.taken ++ r.held) in
        inr (inr (cut items views r port (Open k) (without_part (Open k)) (one_part (Open k)) at
        (omega arith) (omega arith)
        (λ weight. let none : weight_in weight (one_part (Open k)) ≡ 0 = refl in omega (arith, none))
        (fit.0, fit.1, (λ none. absurd (omega arith)), fit.3)
        (fit.0, All-cons InOrder [] [] (sub_nil (r.taken ++ r.held)) (All-nil InOrder), (λ none. absurd (omega arith)), (λ t. absurd (true≢false (sym t))))))
    splits port Fresh o is_o more items views h at = absurd (omega arith)
    splits port (Telling p) o is_o more items views h at = absurd (omega arith)
    splits port Spent o is_o more items views h at = absurd (omega arith)

    pub parts_ways : (port : ℕ) (v : View T O) → takes_in v ≡ true → 0 < parts_in v → Forks (Kept belongs) port v (put_right v) (take_right v)
    parts_ways port (Open k) may some_part items views h at =
        let r = opened items views port k h at in
        let fit = r.fits port (Open k) at in
        let InOrder : List T → Type 0 = λ list. IsSublist list (r.taken ++ r.held) in
        inr (inr (cut items views r port (Open k) (put_right (Open k)) (take_right (Open k)) at
        (omega arith) (omega arith)
        (λ weight. let none : weight_in weight (take_right (Open k)) ≡ 0 = refl in omega (arith, none))
        (fit.0, fit.1, fit.2, (λ t. absurd (true≢false (sym t))))
        (fit.0, All-nil InOrder, (λ none. refl), fit.3)))
    parts_ways port Fresh may some_part items views h at = absurd (omega arith)
    parts_ways port (Telling p) may some_part items views h at = absurd (omega arith)
    parts_ways port Spent may some_part items views h at = absurd (omega arith)

    -- ---- passes put together

    -- the other pass stands where it stood before the first one changed
    stood : (views : List (View T O)) (port other : ℕ) (both u : View T O) → other ≢ port → get_elem? (set views port both) other ≡ some u → get_elem? views other ≡ some u
    stood views port other both u apart at =
        ⊎_elim (λ (x : (other ≡ port) × (both ≡ u)). absurd (apart x.0)) (λ (x : (other ≢ port) × (get_elem? views other ≡ some u)). x.1) (at_set views port other both u at)

    -- one stands in the place of two, and has what they had together
    fused : (items : List (Slip T O)) (views : List (View T O)) (r : IsOpen belongs items views) (port other : ℕ) (v u both : View T O) → get_elem? views port ≡ some v
        → get_elem? (set views port both) other ≡ some u
        → parts_in v + parts_in u ≡ parts_in both → takers_in v + takers_in u ≡ takers_in both
        → ((weight : T → ℕ) → weight_in weight v + weight_in weight u ≡ weight_in weight both)
        → Fits belongs r.owner (r.taken ++ r.held) r.taken both
        → IsOpen belongs items (set (set views port both) other Spent)
    fused items views r port other v u both at at' parts takers weighs fits =
        let F : View T O → Type 0 = Fits belongs r.owner (r.taken ++ r.held) r.taken in
        let now : List (View T O) = set views port both in
        record {
          owner = r.owner;
          taken = r.taken;
          held = r.held;
          items_are = r.items_are;
          belong = r.belong;
          parts =
              let t = total_set parts_in views port v both at in
              let s = total_set parts_in now other u Spent at' in
              let p = r.parts in
              omega (arith, t, s, p, parts);
          takers =
              let t = total_set takers_in views port v both at in
              let s = total_set takers_in now other u Spent at' in
              let p = r.takers in
              omega (arith, t, s, p, takers);
          weighs = λ weight.
              let t = total_set (weight_in weight) views port v both at in
              let s = total_set (weight_in weight) now other u Spent at' in
              let p = r.weighs weight in
              let w = weighs weight in
              omega (arith, t, s, p, w);
          fits = fit_set F now other Spent tt (λ j y away e. fit_set F views port both fits (λ j' y' away' e'. r.fits j' y' e') j y e);
        }

    pub joins : (port : ℕ) (v : View T O) (other : ℕ) (u : View T O) → 0 < parts_in v → 0 < parts_in u → takes_in u ≡ false
        → Merges (Kept belongs) port v other u (joined v u) Spent
    joins port (Open k) other (Open l) some_part some_part' idle items views h at apart at' =
        let r = opened items views port k h at in
        let fit = r.fits port (Open k) at in
        let both : View T O = joined (Open k) (Open l) in
        let fit' = r.fits other (Open l) (stood views port other both (Open l) apart at') in
        let InOrder : List T → Type 0 = λ list. IsSublist list (r.taken ++ r.held) in
        let none : takers_in (Open l) ≡ 0 = ap (λ (b : Bool). cond b 1 0) idle in
        inr (inr (fused items views r port other (Open k) (Open l) both at at'
        refl (omega (arith, none)) (λ weight. sym (sum_by-append (sum_by weight) k.puts l.puts))
        (fit.0, All-append InOrder k.puts l.puts fit.1 fit'.1, (λ none'. absurd (omega arith)), fit.3)))
    joins port Fresh other u some_part some_part' idle items views h at apart at' = absurd (omega arith)
    joins port (Telling p) other u some_part some_part' idle items views h at apart at' = absurd (omega arith)
    joins port Spent other u some_part some_part' idle items views h at apart at' = absurd (omega arith)
    joins port (Open k) other Fresh some_part some_part' idle items views h at apart at' = absurd (omega arith)
    joins port (Open k) other (Telling p) some_part some_part' idle items views h at apart at' = absurd (omega arith)
    joins port (Open k) other Spent some_part some_part' idle items views h at apart at' = absurd (omega arith)

    pub reunites : (port : ℕ) (v : View T O) (other : ℕ) (u : View T O) → 0 < parts_in v → takes_in v ≡ false → parts_in u ≡ 0 → takes_in u ≡ true
        → Merges (Kept belongs) port v other u (reunited v u) Spent
    reunites port (Open k) other (Open l) some_part idle none may items views h at apart at' =
        let r = opened items views port k h at in
        let fit = r.fits port (Open k) at in
        let both : View T O = reunited (Open k) (Open l) in
        let fit' = r.fits other (Open l) (stood views port other both (Open l) apart at') in
        let idle' : takers_in (Open k) ≡ 0 = ap (λ (b : Bool). cond b 1 0) idle in
        inr (inr (fused items views r port other (Open k) (Open l) both at at'
        (omega (arith, none)) (omega (arith, idle'))
        (λ weight. let q = light r.owner (r.taken ++ r.held) r.taken weight (Open l) fit' none in omega (arith, q))
        (fit.0, fit.1, fit.2, fit'.3)))
    reunites port Fresh other u some_part idle none may items views h at apart at' = absurd (omega arith)
    reunites port (Telling p) other u some_part idle none may items views h at apart at' = absurd (omega arith)
    reunites port Spent other u some_part idle none may items views h at apart at' = absurd (omega arith)
    reunites port (Open k) other Fresh some_part idle none may items views h at apart at' = absurd (true≢false (sym may))
    reunites port (Open k) other (Telling p) some_part idle none may items views h at apart at' = absurd (true≢false (sym may))
    reunites port (Open k) other Spent some_part idle none may items views h at apart at' = absurd (true≢false (sym may))

    -- ---- what a pass learns

    pub sees_held : (port : ℕ) (v : View T O) → Learns (Kept belongs) port v (SeesHeld v)
    sees_held port (Open k) items views h at all =
        let r = opened items views port k h at in (r.taken, r.held, r.items_are, merged items views port k at all r)
    sees_held port Fresh items views h at all = absurd (omega arith)
    sees_held port (Telling p) items views h at all = absurd (omega arith)
    sees_held port Spent items views h at all = absurd (omega arith)

    pub sees_rest : (port : ℕ) (v : View T O) → Learns (Kept belongs) port v (SeesRest v)
    sees_rest port (Open k) items views h at all may =
        let r = opened items views port k h at in
        let same : r.taken ≡ k.taken = sym ((r.fits port (Open k) at).3 may) in
        (r.held, r.items_are, subst (λ (l : List T). IsMerge T k.puts (l ++ r.held)) same (merged items views port k at all r))
    sees_rest port Fresh items views h at all may = absurd (omega arith)
    sees_rest port (Telling p) items views h at all may = absurd (omega arith)
    sees_rest port Spent items views h at all may = absurd (omega arith)
