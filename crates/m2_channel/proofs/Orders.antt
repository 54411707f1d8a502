-- Orders of two journals: one that goes on by an entry, the first entries of one, and the same one as the other side sees
-- it.
use Rattle.std.proofs.Common.{◌≡◌, Bool, true, false, ◌||◌, List, [], ◌∷◌, ◌++◌, refl, sym, ap, subst, ◌∙◌, append-nil, append_assoc}
use Rattle.std.specs.List.{AllByRecursion}
use Rattle.m2_dispatch.specs.m2_policy.Policy.{is_pair}
use Rattle.m2_never_reset.specs.m2_journal.Items.{JournalItem}
use Rattle.m2_never_reset.specs.m2_journal.Replay.{AreLawful, after_items}
use Rattle.m2_never_reset.specs.m2_journal.SideFacts.{SideFacts}
use Rattle.m2_never_reset.specs.m2_journal.State.{State, start}
use Rattle.m2_never_reset.specs.m2_journal.Steps.{after}
use Rattle.m2_never_reset.specs.PairLaws.{IsNoDown}
use Rattle.m2_never_reset.specs.Orders.{SideItem, near_item, far_item, near_items, far_items, FitThroughout, IsHistory, near_after, far_after, AreNodes, posted_in, posts_in}
use Rattle.m2_channel.specs.Observed.{turned}
use Rattle.m2_never_reset.proofs.Sided.{near_append, far_append}
use Rattle.m2_never_reset.proofs.m2_journal.Growing.{after-append}
use Rattle.m2_never_reset.proofs.Entries.{fits_turn}
use Rattle.m2_dispatch.proofs.m2_lemmas.Lists.{all_front}

-- ---- one after the other

pub posts-append : (is js : List JournalItem) → posts_in (is ++ js) ≡ posts_in is ++ posts_in js
posts-append [] js = refl
posts-append (i ∷ is) js = ap (λ l. posted_in i ++ l) (posts-append is js) ∙ sym (append_assoc (posted_in i) (posts_in is) (posts_in js))

-- ---- an entry more

pub near_on : (f : SideFacts) (order more : List SideItem) → near_after f (order ++ more) ≡ after_items f (near_items more) (near_after f order)
near_on f order more =
    ap (λ is. after_items f is (start f)) (near_append order more) ∙ after-append f (near_items order) (near_items more) (start f)

pub far_on : (g : SideFacts) (order more : List SideItem) → far_after g (order ++ more) ≡ after_items g (far_items more) (far_after g order)
far_on g order more =
    ap (λ is. after_items g is (start g)) (far_append order more) ∙ after-append g (far_items order) (far_items more) (start g)

pub posts_on : (order : List SideItem) (i : JournalItem) → posts_in (near_items (order ++ near_item i ∷ [])) ≡ posts_in (near_items order) ++ posted_in i
posts_on order i =
    ap posts_in (near_append order (near_item i ∷ [])) ∙ posts-append (near_items order) (i ∷ [])
    ∙ ap (λ l. posts_in (near_items order) ++ l) (append-nil (posted_in i))

pub posts_beside : (order : List SideItem) (i : JournalItem) → posts_in (near_items (order ++ far_item i ∷ [])) ≡ posts_in (near_items order)
posts_beside order i = ap posts_in (near_append order (far_item i ∷ []) ∙ append-nil (near_items order))

-- ---- the first entries

pub lawful_first : (f : SideFacts) (is js : List JournalItem) (s : State) → AreLawful f (is ++ js) s → AreLawful f is s
lawful_first f [] js s h = tt
lawful_first f (i ∷ is) js s h = (h.0, lawful_first f is js (after f i s) h.1)

pub fit_first : (f g : SideFacts) (xs ys : List SideItem) (a b : State) → FitThroughout f g (xs ++ ys) a b → FitThroughout f g xs a b
fit_first f g [] ys a b h = tt
fit_first f g (near_item i ∷ xs) ys a b h = (h.0, fit_first f g xs ys (after f i a) b h.1)
fit_first f g (far_item i ∷ xs) ys a b h = (h.0, fit_first f g xs ys a (after g i b) h.1)

-- the first entries of a history are one
pub history_first : (f g : SideFacts) (order more : List SideItem) → IsHistory f g (order ++ more) → IsHistory f g order
history_first f g order more h = record {
  near_lawful = lawful_first f (near_items order) (near_items more) (start f) (subst (λ is. AreLawful f is (start f)) (near_append order more) h.near_lawful);
  far_lawful = lawful_first g (far_items order) (far_items more) (start g) (subst (λ is. AreLawful g is (start g)) (far_append order more) h.far_lawful);
  near_not_down = all_front IsNoDown (near_items order) (near_items more) (subst (AllByRecursion IsNoDown) (near_append order more) h.near_not_down);
  far_not_down = all_front IsNoDown (far_items order) (far_items more) (subst (AllByRecursion IsNoDown) (far_append order more) h.far_not_down);
  fits = fit_first f g order more (start f) (start g) h.fits;
}

-- ---- as the other side sees it

pub near_turned : (order : List SideItem) → near_items (turned order) ≡ far_items order
near_turned [] = refl
near_turned (near_item i ∷ order) = near_turned order
near_turned (far_item i ∷ order) = ap (λ is. i ∷ is) (near_turned order)

pub far_turned : (order : List SideItem) → far_items (turned order) ≡ near_items order
far_turned [] = refl
far_turned (near_item i ∷ order) = ap (λ is. i ∷ is) (far_turned order)
far_turned (far_item i ∷ order) = far_turned order

pub fit_turned : (f g : SideFacts) (order : List SideItem) (a b : State) → FitThroughout f g order a b → FitThroughout g f (turned order) b a
fit_turned f g [] a b h = tt
fit_turned f g (near_item i ∷ order) a b h = (fits_turn (after f i a) b h.0, fit_turned f g order (after f i a) b h.1)
fit_turned f g (far_item i ∷ order) a b h = (fits_turn a (after g i b) h.0, fit_turned f g order a (after g i b) h.1)

pub history_turned : (f g : SideFacts) (order : List SideItem) → IsHistory f g order → IsHistory g f (turned order)
history_turned f g order h = record {
  near_lawful = subst (λ is. AreLawful g is (start g)) (sym (near_turned order)) h.far_lawful;
  far_lawful = subst (λ is. AreLawful f is (start f)) (sym (far_turned order)) h.near_lawful;
  near_not_down = subst (AllByRecursion IsNoDown) (sym (near_turned order)) h.far_not_down;
  far_not_down = subst (AllByRecursion IsNoDown) (sym (far_turned order)) h.near_not_down;
  fits = fit_turned f g order (start f) (start g) h.fits;
}

pub far_after_turned : (f : SideFacts) (order : List SideItem) → far_after f (turned order) ≡ near_after f order
far_after_turned f order = ap (λ is. after_items f is (start f)) (far_turned order)

either_way : (x y : Bool) → (x || y) ≡ true → (y || x) ≡ true
either_way true true e = refl
either_way true false e = refl
either_way false true e = refl
either_way false false e = e

pub nodes_turned : (f g : SideFacts) → AreNodes f g → AreNodes g f
nodes_turned f g n = record {
  allowed = either_way (is_pair f.policy g.policy) (is_pair g.policy f.policy) n.allowed;
  near_keeps = n.far_keeps;
  far_keeps = n.near_keeps;
  places = λ e. n.places (sym e);
  near_salt = n.far_salt;
  far_salt = n.near_salt;
}
