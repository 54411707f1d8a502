-- What a frame says is read in one way from its fields, and its line from its place, tag and fields.
use Rattle.std.proofs.Common.{◌≡◌, ◌≢◌, ℕ, Bool, true, false, not, ◌&&◌, List, [], ◌∷◌, ◌++◌, map, codes, decimal, inl, inr, ◌⊎◌, refl, sym, ap, subst, ◌∙◌, arith, append_assoc}
use Rattle.std.specs.List.{AllByRecursion, list_all}
use Rattle.std.specs.Str.{bytes_eq}
use Rattle.std.specs.Prelude.{if◌then◌else◌}
use Rattle.std.proofs.lemmas.Bool.{and_parts}
use Rattle.std.proofs.lemmas.Slice.Eq.{bytes_eq-Decides}
use mathlib.Core.List.{append_cancel_left}
use Rattle.m2_frame.specs.declared.tag.Tag.{Tag}
use Rattle.m2_frame.specs.declared.tag.Tag.TheVariants as tag
use Rattle.m2_frame.specs.Tags.{name_in, tag_number}
use Rattle.m2_addr.specs.declared.fault.AddrFault.{AddrFault}
use Rattle.m2_addr.specs.declared.fault.AddrFault.TheVariants as address
use Rattle.m2_control.specs.declared.control.Control.{Control}
use Rattle.m2_control.specs.declared.control.Control.TheVariants as control
use Rattle.m2_control.specs.declared.fault.ControlFault.{ControlFault}
use Rattle.m2_control.specs.declared.fault.ControlFault.TheVariants as fault
use Rattle.m2_control.specs.Control.{tag_of}
use Rattle.m2_frame_facts.specs.declared.facts.Facts.{Facts}
use Rattle.m2_frame_facts.specs.declared.facts.Facts.TheVariants as facts
use Rattle.m2_frame_facts.specs.declared.facts.MessageFacts.{MessageFacts}
use Rattle.m2_frame_facts.specs.declared.style.Style.{Style}
use Rattle.m2_frame_facts.specs.declared.style.Style.TheVariants as style
use Rattle.m2_frame_facts.specs.Fields.{address_word, control_fields, fault_fields, field, fields_of, message_fields}
use Rattle.m2_frame_facts.specs.Line.{before_place, before_tag, behind_tag, head_text, line_end, told_line}
use Rattle.m2_frame_facts.specs.MessageType.{name_of_type}
use Rattle.m2_frame_facts.specs.Value.{Told, number, word, ipv4, field_text, fields_text, place_of}
use Rattle.m2_frame_facts.specs.ReadOnce.{IsOf, IsSmall, LinesAreReadInOneWay, Shown}
use Rattle.m2_frame_facts.proofs.Classes.{is_inner, is_of_name}
use Rattle.m2_frame_facts.proofs.Cuts.{Once, Stops, cut_once}
use Rattle.m2_frame_facts.proofs.TextsOnce.{HexIsReadAgain, begins, number_once}
use Rattle.m2_frame_facts.proofs.RowsOnce.{AreFit, Column, DifferAtOnce, EndsFields, Row, field_begins, field_once, no_row_is_both, row_once, stops_fields, tell, a_flag, a_number, a_place, a_signed, a_word, some_bits, some_bytes, some_numbers, some_places}

-- ---- messages

abbrev Rest : List Column
Rest = (codes "seq", a_number) ∷ (codes "tid", a_number) ∷ (codes "priority", a_number) ∷ (codes "ack", a_number) ∷ (codes "front", a_number) ∷ (codes "middle", a_number) ∷ (codes "data", a_number) ∷ []

abbrev rest_of : MessageFacts → Row Rest
rest_of m = (m.header.seq, (m.header.tid, (m.header.priority, (m.header.ack_seq, (m.front, (m.middle, (m.data_bytes, tt)))))))

-- the type, its name, and the rest
abbrev message : ℕ → Row Rest → List Told
message kind rest = field (codes "type") (number kind) ∷ field (codes "name") (word (name_of_type kind)) ∷ tell Rest rest

abbrev AreSmall : List Told → Type 0
AreSmall = AllByRecursion (λ (f : Told). IsSmall f.said)

stops_field : (form : Style) (f : Told) (more r : List ℕ) → Stops is_inner ((field_text form f ++ more) ++ r)
unfolding field_text
stops_field style.Line f more r = refl
stops_field style.Json f more r = refl

message_once : HexIsReadAgain → (form : Style) (m n : MessageFacts) → AreSmall (message_fields m) → AreSmall (message_fields n)
    → Once (message_fields m ≡ message_fields n) (fields_text form (message_fields m)) (fields_text form (message_fields n))
message_once again form m n small small_too r s stops stops_too e =
    let name = λ (k : ℕ). field_text form (field (codes "name") (word (name_of_type k))) in
    let rest = λ (x : MessageFacts). fields_text form (tell Rest (rest_of x)) in
    let first = field_once again form (codes "type", a_number) m.header.kind n.header.kind small.0 small_too.0 (name m.header.kind ++ rest m) (name n.header.kind ++ rest n) r s
    (stops_field form (field (codes "name") (word (name_of_type m.header.kind))) (rest m) r) (stops_field form (field (codes "name") (word (name_of_type n.header.kind))) (rest n) s) e in
    let named : name n.header.kind ++ (rest m ++ r) ≡ name n.header.kind ++ (rest n ++ s) =
    ap (λ k. name k ++ (rest m ++ r)) (sym first.0) ∙ sym (append_assoc (name m.header.kind) (rest m) r) ∙ first.1 ∙ append_assoc (name n.header.kind) (rest n) s in
    let more = row_once again form Rest (rest_of m) (rest_of n) small.1.1 small_too.1.1 r s stops stops_too (append_cancel_left (name n.header.kind) (rest m ++ r) (rest n ++ s) named) in
    (ap (λ k. message k (rest_of m)) first.0 ∙ ap (λ u. message n.header.kind u) more.0, more.1)

-- ---- what else a frame says

pub data Mold : Type 0 where
  of_tag : Tag → Mold
  bad : Mold
  bad_at : Mold
  gone : Mold

abbrev Addresses : Column
Addresses = (codes "addrs", some_places)

abbrev Tail : List Column
Tail = (codes "gid", a_signed) ∷ (codes "global", a_number) ∷ (codes "supported", some_bits) ∷ (codes "required", some_bits) ∷ (codes "flags", some_bits) ∷ (codes "cookie", some_bits) ∷ []

abbrev Stamp : List Column
Stamp = (codes "seconds", a_number) ∷ (codes "nanoseconds", a_number) ∷ []

abbrev columns_of : Tag → List Column
columns_of tag.Hello = (codes "entity", a_number) ∷ (codes "seen", a_place) ∷ []
columns_of tag.AuthRequest = (codes "method", a_number) ∷ (codes "modes", some_numbers) ∷ (codes "payload", some_bytes) ∷ []
columns_of tag.AuthBadMethod = (codes "method", a_number) ∷ (codes "result", a_signed) ∷ (codes "methods", some_numbers) ∷ (codes "modes", some_numbers) ∷ []
columns_of tag.AuthReplyMore = []
columns_of tag.AuthRequestMore = []
columns_of tag.AuthDone = (codes "global_id", a_number) ∷ (codes "mode", a_number) ∷ (codes "payload", some_bytes) ∷ []
columns_of tag.AuthSignature = (codes "signature", some_bytes) ∷ []
columns_of tag.ClientIdent = Addresses ∷ (codes "target", a_place) ∷ Tail
columns_of tag.ServerIdent = Addresses ∷ Tail
columns_of tag.IdentMissingFeatures = (codes "features", some_bits) ∷ []
columns_of tag.SessionReconnect = Addresses ∷ (codes "client_cookie", some_bits) ∷ (codes "server_cookie", some_bits) ∷ (codes "global", a_number) ∷ (codes "connect", a_number) ∷ (codes "seen", a_number) ∷ []
columns_of tag.SessionReset = (codes "full", a_flag) ∷ []
columns_of tag.SessionRetry = (codes "connect", a_number) ∷ []
columns_of tag.SessionRetryGlobal = (codes "global", a_number) ∷ []
columns_of tag.SessionReconnectOk = (codes "seen", a_number) ∷ []
columns_of tag.Wait = []
columns_of tag.Message = []
columns_of tag.Keepalive = Stamp
columns_of tag.KeepaliveAck = Stamp
columns_of tag.Ack = (codes "seen", a_number) ∷ []
columns_of tag.CompressionRequest = []
columns_of tag.CompressionDone = []

abbrev Fault : Column
Fault = (codes "fault", a_word)

abbrev columns : Mold → List Column
columns (of_tag t) = columns_of t
columns bad = Fault ∷ []
columns bad_at = Fault ∷ (codes "field", a_number) ∷ []
columns gone = (codes "aborted", a_flag) ∷ []

-- fields that are a row of these columns, each within its range
record IsRow (cs : List Column) (fields : List Told) : Type 0 where
  pub row : Row cs
  pub fit : AreFit cs row
  pub told : fields ≡ tell cs row

control_row : (c : Control) → AreSmall (control_fields c) → IsRow (columns_of (tag_of c)) (control_fields c)
control_row (control.Hello p) small = record { row = (p.entity, (place_of p.seen, tt)); fit = small; told = refl }
control_row (control.AuthRequest p) small = record { row = (p.method, (p.modes.items, (p.payload.bytes, tt))); fit = small; told = refl }
control_row (control.AuthBadMethod p) small = record { row = (p.method, (p.outcome, (p.methods.items, (p.modes.items, tt)))); fit = small; told = refl }
control_row (control.AuthDone p) small = record { row = (p.global_id, (p.mode, (p.payload.bytes, tt))); fit = small; told = refl }
control_row (control.AuthSignature p) small = record { row = (p.signature.bytes, tt); fit = small; told = refl }
control_row (control.ClientIdent p) small =
    record { row = (map place_of p.addrs, (ipv4 p.target, (p.gid, (p.global, (p.supported, (p.required, (p.flags, (p.cookie, tt)))))))); fit = small; told = refl }
control_row (control.ServerIdent p) small =
    record { row = (map place_of p.addrs, (p.gid, (p.global, (p.supported, (p.required, (p.flags, (p.cookie, tt))))))); fit = small; told = refl }
control_row (control.IdentMissingFeatures p) small = record { row = (p.bits, tt); fit = small; told = refl }
control_row (control.SessionReconnect p) small =
    record { row = (map place_of p.addrs, (p.client, (p.server, (p.global, (p.connect, (p.seen, tt)))))); fit = small; told = refl }
control_row (control.SessionReset p) small = record { row = (p.full, tt); fit = small; told = refl }
control_row (control.SessionRetry p) small = record { row = (p.connect, tt); fit = small; told = refl }
control_row (control.SessionRetryGlobal p) small = record { row = (p.global, tt); fit = small; told = refl }
control_row (control.SessionReconnectOk p) small = record { row = (p.seen, tt); fit = small; told = refl }
control_row (control.Wait p) small = record { row = tt; fit = small; told = refl }
control_row (control.Keepalive p) small = record { row = (p.seconds, (p.nanos, tt)); fit = small; told = refl }
control_row (control.KeepaliveAck p) small = record { row = (p.seconds, (p.nanos, tt)); fit = small; told = refl }
control_row (control.Ack p) small = record { row = (p.seen, tt); fit = small; told = refl }

abbrev mold_of_fault : ControlFault → Mold
mold_of_fault (fault.BadValue n) = bad_at
mold_of_fault _ = bad

plain_word : (why : AddrFault) → list_all is_inner (address_word why) ≡ true
plain_word address.Short = refl
plain_word address.BadMarker = refl
plain_word address.BadLength = refl
plain_word address.NotIpv4 = refl
plain_word address.NoMsgr2 = refl
plain_word address.TooMany = refl
plain_word address.NoMemory = refl

fault_row : (e : ControlFault) → AreSmall (fault_fields e) → IsRow (columns (mold_of_fault e)) (fault_fields e)
fault_row fault.Short small = record { row = (codes "short", tt); fit = (refl, tt); told = refl }
fault_row fault.Extra small = record { row = (codes "extra", tt); fit = (refl, tt); told = refl }
fault_row (fault.BadValue n) small = record { row = (codes "bad-value", (n, tt)); fit = (refl, small.1); told = refl }
fault_row fault.NotNegotiated small = record { row = (codes "not-negotiated", tt); fit = (refl, tt); told = refl }
fault_row (fault.Address why) small = record { row = (address_word why, tt); fit = (plain_word why, tt); told = refl }
fault_row fault.NoMemory small = record { row = (codes "no-memory", tt); fit = (refl, tt); told = refl }

abbrev mold : Facts → Mold
mold (facts.Message m) = gone
mold facts.NoHeader = bad
mold (facts.Control c) = of_tag (tag_of c)
mold (facts.NoPayload e) = mold_of_fault e
mold facts.Aborted = gone

abbrev IsNoMessage : Facts → Type 0
IsNoMessage (facts.Message m) = ⊥
IsNoMessage _ = Unit {0}

facts_row : (x : Facts) → IsNoMessage x → AreSmall (fields_of x) → IsRow (columns (mold x)) (fields_of x)
facts_row (facts.Message m) other small = absurd other
facts_row facts.NoHeader other small = record { row = (codes "bad-header", tt); fit = (refl, tt); told = refl }
facts_row (facts.Control c) other small = control_row c small
facts_row (facts.NoPayload e) other small = fault_row e small
facts_row facts.Aborted other small = record { row = (true, tt); fit = small; told = refl }

-- ---- which molds a frame of one tag may have

abbrev IsOfTag : Tag → Mold → Type 0
IsOfTag t (of_tag u) = t ≡ u
IsOfTag t _ = Unit {0}

abbrev AreFaults : Mold → Mold → Type 0
AreFaults bad bad_at = Unit {0}
AreFaults bad_at bad = Unit {0}
AreFaults _ _ = ⊥

-- the same as DifferAtOnce, by computation
abbrev differ : List Column → List Column → Bool
differ [] [] = false
differ [] (d ∷ ds) = true
differ (c ∷ cs) [] = true
differ (c ∷ cs) (d ∷ ds) = not (bytes_eq c.0 d.0) && (list_all is_of_name c.0 && list_all is_of_name d.0)

unlike : (a b : List ℕ) → not (bytes_eq a b) ≡ true → a ≢ b
unlike a b h e =
    let moved : not true ≡ true = subst (λ x. not x ≡ true) ((bytes_eq-Decides a b).1 e) h in cc

differ_at_once : (cs ds : List Column) → differ cs ds ≡ true → DifferAtOnce cs ds
differ_at_once [] [] h = cc
differ_at_once [] (d ∷ ds) h = tt
differ_at_once (c ∷ cs) [] h = tt
differ_at_once (c ∷ cs) (d ∷ ds) h =
    let named = list_all is_of_name c.0 && list_all is_of_name d.0 in
    let parts = and_parts (not (bytes_eq c.0 d.0)) named h in
    (unlike c.0 d.0 parts.0, and_parts (list_all is_of_name c.0) (list_all is_of_name d.0) parts.1)

-- the fields of each payload, and those of a fault and of an aborted frame
tags_differ : (t : Tag) → (differ (columns_of t) (columns bad) && (differ (columns_of t) (columns bad_at) && differ (columns_of t) (columns gone))) ≡ true
tags_differ tag.Hello = refl
tags_differ tag.AuthRequest = refl
tags_differ tag.AuthBadMethod = refl
tags_differ tag.AuthReplyMore = refl
tags_differ tag.AuthRequestMore = refl
tags_differ tag.AuthDone = refl
tags_differ tag.AuthSignature = refl
tags_differ tag.ClientIdent = refl
tags_differ tag.ServerIdent = refl
tags_differ tag.IdentMissingFeatures = refl
tags_differ tag.SessionReconnect = refl
tags_differ tag.SessionReset = refl
tags_differ tag.SessionRetry = refl
tags_differ tag.SessionRetryGlobal = refl
tags_differ tag.SessionReconnectOk = refl
tags_differ tag.Wait = refl
tags_differ tag.Message = refl
tags_differ tag.Keepalive = refl
tags_differ tag.KeepaliveAck = refl
tags_differ tag.Ack = refl
tags_differ tag.CompressionRequest = refl
tags_differ tag.CompressionDone = refl

-- of each tag: with a fault, with a fault at a field, with an aborted frame
apart : (t : Tag) → DifferAtOnce (columns_of t) (columns bad) × (DifferAtOnce (columns_of t) (columns bad_at) × DifferAtOnce (columns_of t) (columns gone))
apart t =
    let first = and_parts (differ (columns_of t) (columns bad)) (differ (columns_of t) (columns bad_at) && differ (columns_of t) (columns gone)) (tags_differ t) in
    let others = and_parts (differ (columns_of t) (columns bad_at)) (differ (columns_of t) (columns gone)) first.1 in
    (differ_at_once (columns_of t) (columns bad) first.0, (differ_at_once (columns_of t) (columns bad_at) others.0, differ_at_once (columns_of t) (columns gone) others.1))

flipped : (cs ds : List Column) → DifferAtOnce cs ds → DifferAtOnce ds cs
flipped [] [] apart = apart
flipped [] (d ∷ ds) apart = tt
flipped (c ∷ cs) [] apart = tt
flipped (c ∷ cs) (d ∷ ds) apart = ((λ e. apart.0 (sym e)), (apart.1.1, apart.1.0))

abbrev Compared : Mold → Mold → Type 0
Compared a b = (a ≡ b) ⊎ (DifferAtOnce (columns a) (columns b) ⊎ AreFaults a b)

compared : (t : Tag) (a b : Mold) → IsOfTag t a → IsOfTag t b → Compared a b
compared t (of_tag u) (of_tag v) p q = inl (ap of_tag (sym p ∙ q))
compared t (of_tag u) bad p q = inr (inl (apart u).0)
compared t (of_tag u) bad_at p q = inr (inl (apart u).1.0)
compared t (of_tag u) gone p q = inr (inl (apart u).1.1)
compared t bad (of_tag v) p q = inr (inl (flipped (columns_of v) (columns bad) (apart v).0))
compared t bad bad p q = inl refl
compared t bad bad_at p q = inr (inr tt)
compared t bad gone p q = inr (inl (differ_at_once (columns bad) (columns gone) refl))
compared t bad_at (of_tag v) p q = inr (inl (flipped (columns_of v) (columns bad_at) (apart v).1.0))
compared t bad_at bad p q = inr (inr tt)
compared t bad_at bad_at p q = inl refl
compared t bad_at gone p q = inr (inl (differ_at_once (columns bad_at) (columns gone) refl))
compared t gone (of_tag v) p q = inr (inl (flipped (columns_of v) (columns gone) (apart v).1.1))
compared t gone bad p q = inr (inl (differ_at_once (columns gone) (columns bad) refl))
compared t gone bad_at p q = inr (inl (differ_at_once (columns gone) (columns bad_at) refl))
compared t gone gone p q = inl refl

-- ---- the fields

rows_once : HexIsReadAgain → (form : Style) (a b : Mold) → a ≡ b → (x y : List Told) → IsRow (columns a) x → IsRow (columns b) y
    → Once (x ≡ y) (fields_text form x) (fields_text form y)
rows_once again form a b same x y is is_too =
    let moved : IsRow (columns a) y = subst (λ (c : Mold). IsRow (columns c) y) (sym same) is_too in
    λ r s stops stops_too e.
    let told = row_once again form (columns a) is.row moved.row is.fit moved.fit r s stops stops_too
    (ap (λ fs. fields_text form fs ++ r) (sym is.told) ∙ e ∙ ap (λ fs. fields_text form fs ++ s) moved.told) in
    (is.told ∙ ap (tell (columns a)) told.0 ∙ sym moved.told, told.1)

-- a fault at a field and one without
faults_apart : HexIsReadAgain → (form : Style) (u : Row (columns bad)) (v : Row (columns bad_at)) → AreFit (columns bad) u → AreFit (columns bad_at) v
    → (r s : List ℕ) → Stops is_inner r → Stops is_inner s → EndsFields form r → fields_text form (tell (columns bad) u) ++ r ≡ fields_text form (tell (columns bad_at) v) ++ s → ⊥
faults_apart again form u v fit fit_too r s stops stops_too ends e =
    let at = field (codes "field") (number v.1.0) in
    let behind = field_once again form Fault u.0 v.0 fit.0 fit_too.0 [] (fields_text form (at ∷ [])) r s stops (stops_fields form (at ∷ []) s stops_too) e in
    ends (sym (field_begins form at [] s) ∙ ap begins (sym behind.1))

no_faults_are_both : HexIsReadAgain → (form : Style) (a b : Mold) → AreFaults a b → (u : Row (columns a)) (v : Row (columns b)) → AreFit (columns a) u → AreFit (columns b) v
    → (r s : List ℕ) → Stops is_inner r → Stops is_inner s → EndsFields form r → EndsFields form s
    → fields_text form (tell (columns a) u) ++ r ≡ fields_text form (tell (columns b) v) ++ s → ⊥
no_faults_are_both again form bad bad_at are u v fit fit_too r s stops stops_too ends ends_too e = faults_apart again form u v fit fit_too r s stops stops_too ends e
no_faults_are_both again form bad_at bad are u v fit fit_too r s stops stops_too ends ends_too e = faults_apart again form v u fit_too fit s r stops_too stops ends_too (sym e)
no_faults_are_both again form (of_tag t) b are u v fit fit_too r s stops stops_too ends ends_too e = absurd are
no_faults_are_both again form gone b are u v fit fit_too r s stops stops_too ends ends_too e = absurd are
no_faults_are_both again form bad (of_tag t) are u v fit fit_too r s stops stops_too ends ends_too e = absurd are
no_faults_are_both again form bad bad are u v fit fit_too r s stops stops_too ends ends_too e = absurd are
no_faults_are_both again form bad gone are u v fit fit_too r s stops stops_too ends ends_too e = absurd are
no_faults_are_both again form bad_at (of_tag t) are u v fit fit_too r s stops stops_too ends ends_too e = absurd are
no_faults_are_both again form bad_at bad_at are u v fit fit_too r s stops stops_too ends ends_too e = absurd are
no_faults_are_both again form bad_at gone are u v fit fit_too r s stops stops_too ends ends_too e = absurd are

-- what stands behind the fields of a line
record IsEnd (form : Style) (r : List ℕ) : Type 0 where
  pub stops : Stops is_inner r
  pub ends : EndsFields form r

others_once : HexIsReadAgain → (form : Style) (t : Tag) (x y : Facts) → IsNoMessage x → IsNoMessage y → IsOfTag t (mold x) → IsOfTag t (mold y)
    → AreSmall (fields_of x) → AreSmall (fields_of y) → (r s : List ℕ) → IsEnd form r → IsEnd form s
    → fields_text form (fields_of x) ++ r ≡ fields_text form (fields_of y) ++ s → (fields_of x ≡ fields_of y) × (r ≡ s)
others_once again form t x y other other_too of of_too small small_too r s end end_too e =
    let is = facts_row x other small in
    let is_too = facts_row y other_too small_too in
    let rows = ap (λ fs. fields_text form fs ++ r) (sym is.told) ∙ e ∙ ap (λ fs. fields_text form fs ++ s) is_too.told in
    elim (compared t (mold x) (mold y) of of_too) [
      | inl same ↦ rows_once again form (mold x) (mold y) same (fields_of x) (fields_of y) is is_too r s end.stops end_too.stops e
      | inr (inl differ) ↦ absurd (no_row_is_both form (columns (mold x)) (columns (mold y)) is.row is_too.row differ r s end.ends end_too.ends rows)
      | inr (inr faults) ↦ absurd (no_faults_are_both again form (mold x) (mold y) faults is.row is_too.row is.fit is_too.fit r s end.stops end_too.stops end.ends end_too.ends rows)
    ]

-- a message's fields are a row as well, and differ at once from those of all else
abbrev Whole : List Column
Whole = (codes "type", a_number) ∷ (codes "name", a_word) ∷ Rest

abbrev whole_of : MessageFacts → Row Whole
whole_of m = (m.header.kind, (name_of_type m.header.kind, rest_of m))

type_differs : (a : Mold) → IsOfTag tag.Message a → DifferAtOnce Whole (columns a)
type_differs (of_tag t) is = subst (λ (u : Tag). DifferAtOnce Whole (columns_of u)) is tt
type_differs bad is = differ_at_once Whole (columns bad) refl
type_differs bad_at is = differ_at_once Whole (columns bad_at) refl
type_differs gone is = differ_at_once Whole (columns gone) refl

no_message_is_other : HexIsReadAgain → (form : Style) (m : MessageFacts) (y : Facts) → IsNoMessage y → IsOfTag tag.Message (mold y) → AreSmall (fields_of y)
    → (r s : List ℕ) → IsEnd form r → IsEnd form s → fields_text form (message_fields m) ++ r ≡ fields_text form (fields_of y) ++ s → ⊥
no_message_is_other again form m y other of small r s end end_too e =
    let is = facts_row y other small in
    no_row_is_both form Whole (columns (mold y)) (whole_of m) is.row (type_differs (mold y) of) r s end.ends end_too.ends (e ∙ ap (λ fs. fields_text form fs ++ s) is.told)

of_mold : (t : Tag) (x : Facts) → IsNoMessage x → IsOf t x → IsOfTag t (mold x)
of_mold t (facts.Message m) other of = absurd other
of_mold t facts.NoHeader other of = tt
of_mold t (facts.Control c) other of = of
of_mold t (facts.NoPayload fault.Short) other of = tt
of_mold t (facts.NoPayload fault.Extra) other of = tt
of_mold t (facts.NoPayload (fault.BadValue n)) other of = tt
of_mold t (facts.NoPayload fault.NotNegotiated) other of = tt
of_mold t (facts.NoPayload (fault.Address why)) other of = tt
of_mold t (facts.NoPayload fault.NoMemory) other of = tt
of_mold t facts.Aborted other of = tt

abbrev Told_once : Style → Tag → Facts → Facts → Type 0
Told_once form t x y = AreSmall (fields_of x) → AreSmall (fields_of y) → (r s : List ℕ) → IsEnd form r → IsEnd form s
    → fields_text form (fields_of x) ++ r ≡ fields_text form (fields_of y) ++ s → (fields_of x ≡ fields_of y) × (r ≡ s)

beside_message : HexIsReadAgain → (form : Style) (t : Tag) (m : MessageFacts) (y : Facts) → IsNoMessage y → t ≡ tag.Message → IsOf t y → Told_once form t (facts.Message m) y
beside_message again form t m y other is of small small_too r s end end_too e =
    absurd (no_message_is_other again form m y other (subst (λ (u : Tag). IsOfTag u (mold y)) is (of_mold t y other of)) small_too r s end end_too e)

before_message : HexIsReadAgain → (form : Style) (t : Tag) (x : Facts) (n : MessageFacts) → IsNoMessage x → IsOf t x → t ≡ tag.Message → Told_once form t x (facts.Message n)
before_message again form t x n other of is small small_too r s end end_too e =
    absurd (no_message_is_other again form n x other (subst (λ (u : Tag). IsOfTag u (mold x)) is (of_mold t x other of)) small s r end_too end (sym e))

facts_once : HexIsReadAgain → (form : Style) (t : Tag) (x y : Facts) → IsOf t x → IsOf t y → Told_once form t x y
facts_once again form t (facts.Message m) (facts.Message n) of of_too = λ small small_too r s end end_too e. message_once again form m n small small_too r s end.stops end_too.stops e
facts_once again form t (facts.Message m) facts.NoHeader of of_too = beside_message again form t m facts.NoHeader tt of of_too
facts_once again form t (facts.Message m) (facts.Control c) of of_too = beside_message again form t m (facts.Control c) tt of of_too
facts_once again form t (facts.Message m) (facts.NoPayload e) of of_too = beside_message again form t m (facts.NoPayload e) tt of of_too
facts_once again form t (facts.Message m) facts.Aborted of of_too = beside_message again form t m facts.Aborted tt of of_too
facts_once again form t facts.NoHeader (facts.Message n) of of_too = before_message again form t facts.NoHeader n tt of of_too
facts_once again form t (facts.Control c) (facts.Message n) of of_too = before_message again form t (facts.Control c) n tt of of_too
facts_once again form t (facts.NoPayload e) (facts.Message n) of of_too = before_message again form t (facts.NoPayload e) n tt of of_too
facts_once again form t facts.Aborted (facts.Message n) of of_too = before_message again form t facts.Aborted n tt of of_too
facts_once again form t facts.NoHeader facts.NoHeader of of_too = others_once again form t facts.NoHeader facts.NoHeader tt tt (of_mold t facts.NoHeader tt of) (of_mold t facts.NoHeader tt of_too)
facts_once again form t facts.NoHeader (facts.Control d) of of_too = others_once again form t facts.NoHeader (facts.Control d) tt tt (of_mold t facts.NoHeader tt of) (of_mold t (facts.Control d) tt of_too)
facts_once again form t facts.NoHeader (facts.NoPayload f) of of_too = others_once again form t facts.NoHeader (facts.NoPayload f) tt tt (of_mold t facts.NoHeader tt of) (of_mold t (facts.NoPayload f) tt of_too)
facts_once again form t facts.NoHeader facts.Aborted of of_too = others_once again form t facts.NoHeader facts.Aborted tt tt (of_mold t facts.NoHeader tt of) (of_mold t facts.Aborted tt of_too)
facts_once again form t (facts.Control c) facts.NoHeader of of_too = others_once again form t (facts.Control c) facts.NoHeader tt tt (of_mold t (facts.Control c) tt of) (of_mold t facts.NoHeader tt of_too)
facts_once again form t (facts.Control c) (facts.Control d) of of_too = others_once again form t (facts.Control c) (facts.Control d) tt tt (of_mold t (facts.Control c) tt of) (of_mold t (facts.Control d) tt of_too)
facts_once again form t (facts.Control c) (facts.NoPayload f) of of_too = others_once again form t (facts.Control c) (facts.NoPayload f) tt tt (of_mold t (facts.Control c) tt of) (of_mold t (facts.NoPayload f) tt of_too)
facts_once again form t (facts.Control c) facts.Aborted of of_too = others_once again form t (facts.Control c) facts.Aborted tt tt (of_mold t (facts.Control c) tt of) (of_mold t facts.Aborted tt of_too)
facts_once again form t (facts.NoPayload e) facts.NoHeader of of_too = others_once again form t (facts.NoPayload e) facts.NoHeader tt tt (of_mold t (facts.NoPayload e) tt of) (of_mold t facts.NoHeader tt of_too)
facts_once again form t (facts.NoPayload e) (facts.Control d) of of_too = others_once again form t (facts.NoPayload e) (facts.Control d) tt tt (of_mold t (facts.NoPayload e) tt of) (of_mold t (facts.Control d) tt of_too)
facts_once again form t (facts.NoPayload e) (facts.NoPayload f) of of_too = others_once again form t (facts.NoPayload e) (facts.NoPayload f) tt tt (of_mold t (facts.NoPayload e) tt of) (of_mold t (facts.NoPayload f) tt of_too)
facts_once again form t (facts.NoPayload e) facts.Aborted of of_too = others_once again form t (facts.NoPayload e) facts.Aborted tt tt (of_mold t (facts.NoPayload e) tt of) (of_mold t facts.Aborted tt of_too)
facts_once again form t facts.Aborted facts.NoHeader of of_too = others_once again form t facts.Aborted facts.NoHeader tt tt (of_mold t facts.Aborted tt of) (of_mold t facts.NoHeader tt of_too)
facts_once again form t facts.Aborted (facts.Control d) of of_too = others_once again form t facts.Aborted (facts.Control d) tt tt (of_mold t facts.Aborted tt of) (of_mold t (facts.Control d) tt of_too)
facts_once again form t facts.Aborted (facts.NoPayload f) of of_too = others_once again form t facts.Aborted (facts.NoPayload f) tt tt (of_mold t facts.Aborted tt of) (of_mold t (facts.NoPayload f) tt of_too)
facts_once again form t facts.Aborted facts.Aborted of of_too = others_once again form t facts.Aborted facts.Aborted tt tt (of_mold t facts.Aborted tt of) (of_mold t facts.Aborted tt of_too)

-- ---- the line

-- the tag with this name, where there is one
abbrev tag_named : List ℕ → Tag
tag_named name =
    if bytes_eq name (codes "HELLO") then tag.Hello
    else if bytes_eq name (codes "AUTH_REQUEST") then tag.AuthRequest
    else if bytes_eq name (codes "AUTH_BAD_METHOD") then tag.AuthBadMethod
    else if bytes_eq name (codes "AUTH_REPLY_MORE") then tag.AuthReplyMore
    else if bytes_eq name (codes "AUTH_REQUEST_MORE") then tag.AuthRequestMore
    else if bytes_eq name (codes "AUTH_DONE") then tag.AuthDone
    else if bytes_eq name (codes "AUTH_SIGNATURE") then tag.AuthSignature
    else if bytes_eq name (codes "CLIENT_IDENT") then tag.ClientIdent
    else if bytes_eq name (codes "SERVER_IDENT") then tag.ServerIdent
    else if bytes_eq name (codes "IDENT_MISSING_FEATURES") then tag.IdentMissingFeatures
    else if bytes_eq name (codes "SESSION_RECONNECT") then tag.SessionReconnect
    else if bytes_eq name (codes "SESSION_RESET") then tag.SessionReset
    else if bytes_eq name (codes "SESSION_RETRY") then tag.SessionRetry
    else if bytes_eq name (codes "SESSION_RETRY_GLOBAL") then tag.SessionRetryGlobal
    else if bytes_eq name (codes "SESSION_RECONNECT_OK") then tag.SessionReconnectOk
    else if bytes_eq name (codes "WAIT") then tag.Wait
    else if bytes_eq name (codes "MESSAGE") then tag.Message
    else if bytes_eq name (codes "KEEPALIVE2") then tag.Keepalive
    else if bytes_eq name (codes "KEEPALIVE2_ACK") then tag.KeepaliveAck
    else if bytes_eq name (codes "ACK") then tag.Ack
    else if bytes_eq name (codes "COMPRESSION_REQUEST") then tag.CompressionRequest
    else tag.CompressionDone

named : (t : Tag) → tag_named (name_in (tag_number t)) ≡ t
named tag.Hello = refl
named tag.AuthRequest = refl
named tag.AuthBadMethod = refl
named tag.AuthReplyMore = refl
named tag.AuthRequestMore = refl
named tag.AuthDone = refl
named tag.AuthSignature = refl
named tag.ClientIdent = refl
named tag.ServerIdent = refl
named tag.IdentMissingFeatures = refl
named tag.SessionReconnect = refl
named tag.SessionReset = refl
named tag.SessionRetry = refl
named tag.SessionRetryGlobal = refl
named tag.SessionReconnectOk = refl
named tag.Wait = refl
named tag.Message = refl
named tag.Keepalive = refl
named tag.KeepaliveAck = refl
named tag.Ack = refl
named tag.CompressionRequest = refl
named tag.CompressionDone = refl

plain_name : (t : Tag) → list_all is_inner (name_in (tag_number t)) ≡ true
plain_name tag.Hello = refl
plain_name tag.AuthRequest = refl
plain_name tag.AuthBadMethod = refl
plain_name tag.AuthReplyMore = refl
plain_name tag.AuthRequestMore = refl
plain_name tag.AuthDone = refl
plain_name tag.AuthSignature = refl
plain_name tag.ClientIdent = refl
plain_name tag.ServerIdent = refl
plain_name tag.IdentMissingFeatures = refl
plain_name tag.SessionReconnect = refl
plain_name tag.SessionReset = refl
plain_name tag.SessionRetry = refl
plain_name tag.SessionRetryGlobal = refl
plain_name tag.SessionReconnectOk = refl
plain_name tag.Wait = refl
plain_name tag.Message = refl
plain_name tag.Keepalive = refl
plain_name tag.KeepaliveAck = refl
plain_name tag.Ack = refl
plain_name tag.CompressionRequest = refl
plain_name tag.CompressionDone = refl

-- a line and what stands behind it: what stands before the place, the place, what stands before the tag, the tag's name, and the rest
laid : (form : Style) (p : ℕ) (t : ℕ) (x : Facts) (r : List ℕ) → told_line form p t x ++ r
    ≡ before_place form ++ (decimal p ++ (before_tag form ++ (name_in t ++ (behind_tag form ++ (fields_text form (fields_of x) ++ (line_end form ++ r))))))
unfolding told_line head_text
laid form p t x r =
    let a = before_place form in
    let b = before_tag form in
    let c = behind_tag form in
    let n = name_in t in
    let f = fields_text form (fields_of x) in
    let l = line_end form in
    append_assoc (a ++ decimal p ++ b ++ n ++ c ++ f) l r ∙ append_assoc (a ++ decimal p ++ b ++ n ++ c) f (l ++ r) ∙ append_assoc (a ++ decimal p ++ b ++ n) c (f ++ (l ++ r))
    ∙ append_assoc (a ++ decimal p ++ b) n (c ++ (f ++ (l ++ r))) ∙ append_assoc (a ++ decimal p) b (n ++ (c ++ (f ++ (l ++ r)))) ∙ append_assoc a (decimal p) (b ++ (n ++ (c ++ (f ++ (l ++ r)))))

end_of_line : (form : Style) (r : List ℕ) → IsEnd form (line_end form ++ r)
end_of_line style.Line r = record { stops = refl; ends = λ e. let first : 32 ≡ 10 = e in omega (arith, first) }
end_of_line style.Json r = record { stops = refl; ends = λ e. let first : 44 ≡ 125 = e in omega (arith, first) }

stops_place : (form : Style) (r : List ℕ) → Stops is_inner (before_tag form ++ r)
stops_place style.Line r = refl
stops_place style.Json r = refl

stops_tag : (form : Style) (fs : List Told) (r : List ℕ) → Stops is_inner (behind_tag form ++ (fields_text form fs ++ (line_end form ++ r)))
stops_tag style.Line fs r = stops_fields style.Line fs (line_end style.Line ++ r) refl
stops_tag style.Json fs r = refl

pub lines_once : HexIsReadAgain → LinesAreReadInOneWay
lines_once again form one other r s is is_too e =
    let behind = λ (x : Shown) (t : List ℕ). behind_tag form ++ (fields_text form (fields_of x.says) ++ (line_end form ++ t)) in
    let name = λ (x : Shown). name_in (tag_number x.tag) in
    let all = sym (laid form one.place (tag_number one.tag) one.says r) ∙ e ∙ laid form other.place (tag_number other.tag) other.says s in
    let places = append_cancel_left (before_place form) (decimal one.place ++ (before_tag form ++ (name one ++ behind one r))) (decimal other.place ++ (before_tag form ++ (name other ++ behind other s))) all in
    let place = number_once one.place other.place is.place is_too.place (before_tag form ++ (name one ++ behind one r)) (before_tag form ++ (name other ++ behind other s))
    (stops_place form (name one ++ behind one r)) (stops_place form (name other ++ behind other s)) places in
    let names = append_cancel_left (before_tag form) (name one ++ behind one r) (name other ++ behind other s) place.1 in
    let cut = cut_once is_inner (name one) (name other) (behind one r) (behind other s) (plain_name one.tag) (plain_name other.tag)
    (stops_tag form (fields_of one.says) r) (stops_tag form (fields_of other.says) s) names in
    let same : one.tag ≡ other.tag = sym (named one.tag) ∙ ap tag_named cut.0 ∙ named other.tag in
    let told = append_cancel_left (behind_tag form) (fields_text form (fields_of one.says) ++ (line_end form ++ r)) (fields_text form (fields_of other.says) ++ (line_end form ++ s)) cut.1 in
    let fields = facts_once again form one.tag one.says other.says is.of_tag (subst (λ (t : Tag). IsOf t other.says) (sym same) is_too.of_tag) is.small is_too.small
    (line_end form ++ r) (line_end form ++ s) (end_of_line form r) (end_of_line form s) told in
    (record { place = place.0; tag = same; fields = fields.0 }, append_cancel_left (line_end form) r s fields.1)
