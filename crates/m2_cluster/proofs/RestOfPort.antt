-- Whether all that wait at a port are to come is the same where a socket comes there, and where one of them is told something.
use Rattle.std.proofs.Common.{◌≡◌, ℕ, ◌&&◌, ◌||◌, not, Bool, true, false, if◌then◌else◌, List, [], ◌∷◌, ◌++◌, Option, Some, None, Result, Ok, Err, OnOk, OnErr, refl, ap, ◌∙◌}
use Rattle.std.specs.List.{list_all, list_any}
use Rattle.std.specs.Option.{option_map}
use Rattle.m2_fabric.specs.declared.end.News.{News}
use Rattle.m2_fabric.specs.declared.socket.SocketId.{SocketId}
use Rattle.m2_fabric.specs.End.{SeenEnd, after_news, fresh_end}
use Rattle.m2_fabric.specs.Port.{SeenPort, may_wait, one_hears, with_incoming, with_news, with_waiting}
use Rattle.m2_fabric.specs.Sockets.{goes_to, is_among, same_socket}
use Rattle.m2_center.specs.m2_record.RecordNow.{ids_of}
use Rattle.m2_center.specs.Center.{CenterNow}
use Rattle.m2_center.specs.Reaching.{after_hearing, has_half, rest_in}
use Rattle.m2_center.specs.RecordEnds.{has_end, records_hear}
use Rattle.m2_center.proofs.RecordsHear.{among_both, center_rest}
use Rattle.m2_center.specs.m2_turn.Hearing as halves
use Rattle.m2_cluster.specs.Node.{NodeNow, all_to_come, are_apart, is_to_come, rest_at, rest_of_node}
use Rattle.m2_bytes.proofs.m2_lemmas.Booleans.{or_false, one_of_three, neither_of_or}
use Rattle.m2_fabric.proofs.Sockets.{apart_turned}

-- ---- a socket comes

all_last : (f : SeenEnd → Bool) (es : List SeenEnd) (x : SeenEnd) → f x ≡ true → list_all f (es ++ x ∷ []) ≡ list_all f es
all_last f [] x this = ap (λ b. b && true) this
all_last f (e ∷ es) x this = ap (λ b. f e && b) (all_last f es x this)

apart_last : (id : SocketId) (es : List SeenEnd) → list_any (λ (e : SeenEnd). same_socket id e.id) es ≡ false →
    are_apart (ids_of (es ++ fresh_end id ∷ [])) ≡ are_apart (ids_of es)
apart_last id [] none = refl
apart_last id (e ∷ es) none =
    let two = neither_of_or (same_socket id e.id) (list_any (λ (e : SeenEnd). same_socket id e.id) es) none in
    ap (λ b. not b && are_apart (ids_of (es ++ fresh_end id ∷ [])))
    (among_both e.id es (fresh_end id ∷ []) ∙ ap (λ b. is_among e.id (ids_of es) || (b || false)) (apart_turned id e.id two.0) ∙ or_false (is_among e.id (ids_of es)))
    ∙ ap (λ b. not (is_among e.id (ids_of es)) && b) (apart_last id es two.1)

incoming_same : (id : SocketId) (p : SeenPort) (w : Option (List SeenEnd)) → all_to_come p (option_map (with_waiting id p) w) ≡ all_to_come p w
incoming_same id p None = refl
incoming_same id p (Some es) = at (may_wait id p es) refl
  where
    at : (b : Bool) → may_wait id p es ≡ b → all_to_come p (Some (if b then es ++ fresh_end id ∷ [] else es)) ≡ all_to_come p (Some es)
    at true may =
        let parts = one_of_three (goes_to p.at id) (is_among id p.made) (list_any (λ (e : SeenEnd). same_socket id e.id) es) may in
        ap (λ b. b && are_apart (ids_of (es ++ fresh_end id ∷ [])))
        (all_last (is_to_come p) es (fresh_end id) (ap (λ b. b && (not (is_among id p.made) && true)) parts.0 ∙ ap (λ b. not b && true) parts.1))
        ∙ ap (λ b. list_all (is_to_come p) es && b) (apart_last id es parts.2)
    at false may = refl

port_comes : (id : SocketId) (p : SeenPort) → rest_at (with_incoming id p) ≡ rest_at p
port_comes id p = ap (λ (b : Bool). record p { waiting = if b then Some [] else None }) (incoming_same id p p.waiting)

-- ---- one of them is told

module _ (id : SocketId) (news : News) (bytes : List ℕ) where
  abbrev hears : SeenEnd → SeenEnd
  hears = after_news news bytes

  same_ids : (es : List SeenEnd) → ids_of (one_hears id hears es) ≡ ids_of es
  same_ids [] = refl
  same_ids (e ∷ es) = at (same_socket id e.id) (same_ids es)
    where
      at : (b : Bool) → ids_of (one_hears id hears es) ≡ ids_of es → ids_of (if b then hears e ∷ es else e ∷ one_hears id hears es) ≡ e.id ∷ ids_of es
      at true rest = refl
      at false rest = ap (λ l. e.id ∷ l) rest

  same_all : (p : SeenPort) (es : List SeenEnd) → list_all (is_to_come p) (one_hears id hears es) ≡ list_all (is_to_come p) es
  same_all p [] = refl
  same_all p (e ∷ es) = at (same_socket id e.id) (same_all p es)
    where
      at : (b : Bool) → list_all (is_to_come p) (one_hears id hears es) ≡ list_all (is_to_come p) es →
          list_all (is_to_come p) (if b then hears e ∷ es else e ∷ one_hears id hears es) ≡ is_to_come p e && list_all (is_to_come p) es
      at true rest = refl
      at false rest = ap (λ b. is_to_come p e && b) rest

  news_same : (p : SeenPort) (w : Option (List SeenEnd)) → all_to_come p (option_map (one_hears id hears) w) ≡ all_to_come p w
  news_same p None = refl
  news_same p (Some es) =
      ap (λ b. b && are_apart (ids_of (one_hears id hears es))) (same_all p es) ∙ ap (λ l. list_all (is_to_come p) es && are_apart l) (same_ids es)

  port_hears : (p : SeenPort) → rest_at (with_news id news bytes p) ≡ rest_at p
  port_hears p = ap (λ (b : Bool). record p { waiting = if b then Some [] else None }) (news_same p p.waiting)

  same_port : {D : Type 0} (c : CenterNow D) → rest_at (after_hearing id news bytes c).port ≡ rest_at c.port
  same_port c = at (list_any (has_end id) c.records) (has_half id c.halves)
    where
      at : (b h : Bool) →
          rest_at (if b then record c { records = records_hear id news bytes c.records } else (if h then record c { halves = halves.after_hearing id news bytes c.halves } else record c { port = with_news id news bytes c.port })).port
          ≡ rest_at c.port
      at true h = refl
      at false true = refl
      at false false = port_hears c.port

-- ---- a node

module _ {D E : Type 0} (r : Result (Unit {0}) E) (was old : NodeNow D) (same : was ≡ old) (id : SocketId) (new : CenterNow D) where
  abbrev now : NodeNow D
  now = record was { center = new }

  -- its center with that rest, over a port with that
  abbrev over : CenterNow D → SeenPort → NodeNow D
  over c p = record was { center = record c { port = p } }

  by_same : new ≡ was.center → rest_of_node now ≡ rest_of_node old
  by_same e = ap (λ (c : CenterNow D). rest_of_node (record was { center = c })) e ∙ ap rest_of_node same

  pub came_rest : OnOk r (new ≡ record was.center { port = with_incoming id was.center.port }) → OnErr r (new ≡ was.center) → rest_of_node now ≡ rest_of_node old
  came_rest ok err = at r ok err
    where
      at : (r : Result (Unit {0}) E) → OnOk r (new ≡ record was.center { port = with_incoming id was.center.port }) → OnErr r (new ≡ was.center) → rest_of_node now ≡ rest_of_node old
      at (Ok done) ok err =
          ap (λ (c : CenterNow D). rest_of_node (record was { center = c })) ok
          ∙ ap (over (rest_in was.center)) (port_comes id was.center.port)
          ∙ ap rest_of_node same
      at (Err e) ok err = by_same err

  pub heard_rest : (news : News) (bytes : List ℕ) → OnOk r (new ≡ after_hearing id news bytes was.center) → OnErr r (new ≡ was.center) → rest_of_node now ≡ rest_of_node old
  heard_rest news bytes ok err = at r ok err
    where
      at : (r : Result (Unit {0}) E) → OnOk r (new ≡ after_hearing id news bytes was.center) → OnErr r (new ≡ was.center) → rest_of_node now ≡ rest_of_node old
      at (Ok done) ok err =
          ap (λ (c : CenterNow D). rest_of_node (record was { center = c })) ok
          ∙ ap (λ (c : CenterNow D). over c (rest_at (after_hearing id news bytes was.center).port)) (center_rest id news bytes was.center)
          ∙ ap (over (rest_in was.center)) (same_port id news bytes was.center)
          ∙ ap rest_of_node same
      at (Err e) ok err = by_same err
