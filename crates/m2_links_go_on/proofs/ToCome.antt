-- The ends that wait at a port where a socket comes there, and where one of them is told something.
use Rattle.std.proofs.Common.{◌≡◌, ◌⊎◌, inl, inr, ℕ, ◌&&◌, ◌||◌, not, if◌then◌else◌, Bool, true, false, List, [], ◌∷◌, ◌++◌, Option, Some, None, refl, sym, ap, subst, is_some, ◌∙◌, length, ◌==◌}
use Rattle.std.specs.Prelude.{IsSome, unwrap_or}
use Rattle.std.specs.List.{AllByRecursion, IsDistinct, list_any, list_all}
use Rattle.std.specs.Option.{option_map}
use Rattle.m2_fabric.specs.declared.end.News.{News}
use Rattle.m2_fabric.specs.declared.socket.SocketId.{SocketId}
use Rattle.m2_fabric.specs.End.{SeenEnd, after_news, fresh_end}
use Rattle.m2_fabric.specs.Port.{SeenPort, may_wait, one_hears, with_incoming, with_news, with_waiting}
use Rattle.m2_fabric.specs.Sockets.{goes_to, is_among, same_socket}
use Rattle.m2_fabric.specs.Log.{Log, nothing_done}
use Rattle.m2_cluster.specs.Node.{all_to_come, are_apart, is_to_come, is_unused}
use Rattle.m2_cluster.proofs.OneCenter.{none_at}
use Rattle.m2_history.specs.m2_record.RecordNow.{ids_of}
use Rattle.m2_history.specs.m2_record.Sources.{end_at}
use Rattle.m2_growth.specs.Ends.{AreOfTheirOwn}
use Rattle.m2_growth.specs.Holding.{IsToCome}
use Rattle.m2_growth.proofs.Ends.{AreApart, own_cons, own_join, own_none, own_tail}
use Rattle.m2_links_go_on.specs.ClusterTold.{AreToCome, StayToCome, AreUnused}
use Rattle.m2_fabric.proofs.m2_lemmas.Lists.{empty_of_length, all_append, all_so_of}
use Rattle.m2_fabric.proofs.m2_lemmas.Booleans.{one_of_three, negated_is_false, false_isnt_true}
use Rattle.m2_fabric.proofs.Sockets.{same_equal}

-- the same port, with these waiting
abbrev over : SeenPort → Option (List SeenEnd) → SeenPort
over p w = record p { waiting = w }

come_there : (p : SeenPort) (w : Option (List SeenEnd)) (es : List SeenEnd) → AllByRecursion (IsToCome p) es → AllByRecursion (IsToCome (over p w)) es
come_there p w es all = all_so_of (IsToCome p) (IsToCome (over p w)) es (λ e h. record { here = h.here; new = h.new }) all

-- ---- a socket comes

none_there : (id : SocketId) (es : List SeenEnd) → list_any (λ (e : SeenEnd). same_socket id e.id) es ≡ false → end_at es id ≡ None
none_there id [] none = refl
none_there id (e ∷ es) none = at (same_socket id e.id) none (none_there id es)
  where
    at : (b : Bool) → b || list_any (λ (e : SeenEnd). same_socket id e.id) es ≡ false → (list_any (λ (e : SeenEnd). same_socket id e.id) es ≡ false → end_at es id ≡ None) →
        (if b then Some e else end_at es id) ≡ None
    at true h rest = absurd (false_isnt_true (sym h))
    at false h rest = rest h

-- of no socket one that waits and the one that comes
apart_from : (id : SocketId) (es : List SeenEnd) → end_at es id ≡ None → AreApart es (fresh_end id ∷ [])
apart_from id es none k = at (same_socket k id) refl
  where
    at : (b : Bool) → same_socket k id ≡ b → (end_at es k ≡ None) ⊎ (end_at (fresh_end id ∷ []) k ≡ None)
    at true same = inl (subst (λ j. end_at es j ≡ None) (sym (same_equal k id same)) none)
    at false other = inr (ap (λ b. if b then Some (fresh_end id) else None) other)

came : (id : SocketId) (p : SeenPort) (es : List SeenEnd) → AreOfTheirOwn es → AllByRecursion (IsToCome p) es → (b : Bool) → may_wait id p es ≡ b →
    AreToCome (over p (Some (if b then es ++ fresh_end id ∷ [] else es)))
came id p es own come true may =
    let parts = one_of_three (goes_to p.at id) (is_among id p.made) (list_any (λ (e : SeenEnd). same_socket id e.id) es) may in
    record {
      waiting = own_join es (fresh_end id ∷ []) own (own_cons (fresh_end id) [] refl own_none) (apart_from id es (none_there id es parts.2));
      to_come = come_there p (Some (es ++ fresh_end id ∷ [])) (es ++ fresh_end id ∷ [])
          (all_append (IsToCome p) es (fresh_end id ∷ []) come (record { here = parts.0; new = parts.1 }, tt));
    }
came id p es own come false may = record { waiting = own; to_come = come_there p (Some es) es come }

pub incoming_to_come : (id : SocketId) (p : SeenPort) → StayToCome p (with_incoming id p)
incoming_to_come id p a = at p.waiting a.waiting a.to_come
  where
    at : (w : Option (List SeenEnd)) → AreOfTheirOwn (unwrap_or w []) → AllByRecursion (IsToCome p) (unwrap_or w []) → AreToCome (over p (option_map (with_waiting id p) w))
    at (Some es) own come = came id p es own come (may_wait id p es) refl
    at None own come = record { waiting = own; to_come = tt }

-- ---- one of them is told

module _ (id : SocketId) (news : News) (bytes : List ℕ) where
  abbrev hears : SeenEnd → SeenEnd
  hears = after_news news bytes

  same_ids : (es : List SeenEnd) → ids_of (one_hears id hears es) ≡ ids_of es
  same_ids [] = refl
  same_ids (e ∷ es) = at (same_socket id e.id) (same_ids es)
    where
      at : (b : Bool) → ids_of (one_hears id hears es) ≡ ids_of es → ids_of (if b then hears e ∷ es else e ∷ one_hears id hears es) ≡ e.id ∷ ids_of es
      at true rest = refl
      at false rest = ap (λ l. e.id ∷ l) rest

  still_to_come : (p : SeenPort) (es : List SeenEnd) → AllByRecursion (IsToCome p) es → AllByRecursion (IsToCome p) (one_hears id hears es)
  still_to_come p [] all = tt
  still_to_come p (e ∷ es) all = at (same_socket id e.id) (still_to_come p es all.1)
    where
      at : (b : Bool) → AllByRecursion (IsToCome p) (one_hears id hears es) → AllByRecursion (IsToCome p) (if b then hears e ∷ es else e ∷ one_hears id hears es)
      at true rest = (record { here = all.0.here; new = all.0.new }, all.1)
      at false rest = (all.0, rest)

  pub news_to_come : (p : SeenPort) → StayToCome p (with_news id news bytes p)
  news_to_come p a = at p.waiting a.waiting a.to_come
    where
      at : (w : Option (List SeenEnd)) → AreOfTheirOwn (unwrap_or w []) → AllByRecursion (IsToCome p) (unwrap_or w []) → AreToCome (over p (option_map (one_hears id hears) w))
      at (Some es) own come = record {
        waiting = subst (IsDistinct same_socket) (sym (same_ids es)) own;
        to_come = come_there p (Some (one_hears id hears es)) (one_hears id hears es) (still_to_come p es come);
      }
      at None own come = record { waiting = own; to_come = tt }

-- ---- whether all are to come

both : (a b : Bool) → a && b ≡ true → (a ≡ true) × (b ≡ true)
both true true h = (refl, refl)
both true false h = absurd (false_isnt_true h)
both false b h = absurd (false_isnt_true h)

none_of : (a b c d : Bool) → not (a || (b || (c || d))) ≡ true → (a ≡ false) × (b ≡ false) × (c ≡ false) × (d ≡ false)
none_of false false false false h = (refl, refl, refl, refl)
none_of false false false true h = absurd (false_isnt_true h)
none_of false false true d h = absurd (false_isnt_true h)
none_of false true c d h = absurd (false_isnt_true h)
none_of true b c d h = absurd (false_isnt_true h)

unused_so : (l : Log) → is_unused l ≡ true → l ≡ nothing_done
unused_so l h =
    let flags : Bool = not (l.closed || (l.dry || (l.blocked || l.ended))) in
    let first = both (length l.got == 0) ((length l.put == 0) && ((length l.runs == 0) && flags)) h in
    let second = both (length l.put == 0) ((length l.runs == 0) && flags) first.1 in
    let third = both (length l.runs == 0) flags second.1 in
    let rest = none_of l.closed l.dry l.blocked l.ended third.1 in
    ap (λ x. record l { got = x }) (empty_of_length l.got first.0) ∙ ap (λ x. record l { got = []; put = x }) (empty_of_length l.put second.0)
    ∙ ap (λ x. record l { got = []; put = []; runs = x }) (empty_of_length l.runs third.0)
    ∙ ap (λ x. record l { got = []; put = []; runs = []; closed = x }) rest.0
    ∙ ap (λ x. record l { got = []; put = []; runs = []; closed = false; dry = x }) rest.1
    ∙ ap (λ x. record l { got = []; put = []; runs = []; closed = false; dry = false; blocked = x }) rest.2
    ∙ ap (λ x. record l { got = []; put = []; runs = []; closed = false; dry = false; blocked = false; ended = x }) rest.3

three : (a b c : Bool) → a && (not b && c) ≡ true → (a ≡ true) × (b ≡ false) × (c ≡ true)
three true false true h = (refl, refl, refl)
three true false false h = absurd (false_isnt_true h)
three true true c h = absurd (false_isnt_true h)
three false b c h = absurd (false_isnt_true h)

module _ (p : SeenPort) where
  abbrev IsUnused : SeenEnd → Type 0
  IsUnused e = e.log ≡ nothing_done

  each_so : (es : List SeenEnd) → AllByRecursion (IsToCome p) es → AllByRecursion IsUnused es → list_all (is_to_come p) es ≡ true
  each_so [] come unused = refl
  each_so (e ∷ es) come unused =
      ap (λ b. (b && (not (is_among e.id p.made) && is_unused e.log)) && list_all (is_to_come p) es) come.0.here
      ∙ ap (λ b. (not b && is_unused e.log) && list_all (is_to_come p) es) come.0.new ∙ ap (λ l. is_unused l && list_all (is_to_come p) es) unused.0 ∙ each_so es come.1 unused.1

  each_is : (es : List SeenEnd) → list_all (is_to_come p) es ≡ true → AllByRecursion (IsToCome p) es × AllByRecursion IsUnused es
  each_is [] all = (tt, tt)
  each_is (e ∷ es) all =
      let two = both (is_to_come p e) (list_all (is_to_come p) es) all in
      let parts = three (goes_to p.at e.id) (is_among e.id p.made) (is_unused e.log) two.0 in
      let rest = each_is es two.1 in
      ((record { here = parts.0; new = parts.1 }, rest.0), (unused_so e.log parts.2, rest.1))

pub among_none : (es : List SeenEnd) (k : SocketId) → end_at es k ≡ None → is_among k (ids_of es) ≡ false
among_none [] k none = refl
among_none (e ∷ es) k none = at (same_socket k e.id) none (among_none es k)
  where
    at : (b : Bool) → (if b then Some e else end_at es k) ≡ None → (end_at es k ≡ None → is_among k (ids_of es) ≡ false) → b || is_among k (ids_of es) ≡ false
    at true h rest = absurd (false_isnt_true (sym (ap is_some h)))
    at false h rest = rest h

apart_so : (es : List SeenEnd) → AreOfTheirOwn es → are_apart (ids_of es) ≡ true
apart_so [] own = refl
apart_so (e ∷ es) own =
    let two = own_tail e es own in
    ap (λ b. not b && are_apart (ids_of es)) (among_none es e.id two.0) ∙ apart_so es two.1

apart_is : (es : List SeenEnd) → are_apart (ids_of es) ≡ true → AreOfTheirOwn es
apart_is [] h = own_none
apart_is (e ∷ es) h =
    let two = both (not (is_among e.id (ids_of es))) (are_apart (ids_of es)) h in
    own_cons e es (none_at es e.id (negated_is_false (is_among e.id (ids_of es)) two.0)) (apart_is es two.1)

pub are_to_come_so : (p : SeenPort) → IsSome p.waiting → AreToCome p → AreUnused p → all_to_come p p.waiting ≡ true
are_to_come_so p memory a unused = at p.waiting memory a.waiting a.to_come unused
  where
    at : (w : Option (List SeenEnd)) → IsSome w → AreOfTheirOwn (unwrap_or w []) → AllByRecursion (IsToCome p) (unwrap_or w []) →
        AllByRecursion (λ (e : SeenEnd). e.log ≡ nothing_done) (unwrap_or w []) → all_to_come p w ≡ true
    at (Some es) some own come unused = ap (λ b. b && are_apart (ids_of es)) (each_so p es come unused) ∙ apart_so es own
    at None some own come unused = absurd (false_isnt_true some)

pub are_to_come : (p : SeenPort) → all_to_come p p.waiting ≡ true → AreToCome p × AreUnused p × IsSome p.waiting
are_to_come p all = at p.waiting all
  where
    at : (w : Option (List SeenEnd)) → all_to_come p w ≡ true → AreToCome (over p w) × AreUnused (over p w) × IsSome w
    at (Some es) all =
        let two = both (list_all (is_to_come p) es) (are_apart (ids_of es)) all in
        let each = each_is p es two.0 in
        (record { waiting = apart_is es two.1; to_come = come_there p (Some es) es each.0 }, each.1, refl)
    at None all = absurd (false_isnt_true all)
