-- What is told of a payload has nothing to do with where its parts lie.
use Rattle.std.proofs.Common.{◌≡◌, ℕ, List, [], ◌∷◌, ◌++◌, map, drop, refl, ap, sym, ◌∙◌}
use Rattle.std.specs.Prelude.{codes}
use Rattle.m2_addr.specs.declared.addr.AnyAddr.{AnyAddr}
use Rattle.m2_addr.specs.declared.addr.AnyAddr.TheVariants.{V4, Other}
use Rattle.m2_addr.specs.Addr.{bare as bare_address}
use Rattle.m2_addr.specs.Vector.{bares}
use Rattle.m2_control.specs.declared.control.Control.{Control}
use Rattle.m2_control.specs.declared.control.Control.TheVariants as control
use Rattle.m2_control.specs.Control.{bare}
use Rattle.m2_frame_facts.specs.declared.facts.Facts.{Facts}
use Rattle.m2_frame_facts.specs.declared.facts.Facts.TheVariants as facts
use Rattle.m2_frame_facts.specs.Facts.{bare_facts}
use Rattle.m2_frame_facts.specs.Fields.{field, control_fields, client_ident_fields, fields_of, server_ident_fields, session_reconnect_fields}
use Rattle.m2_frame.specs.Tags.{name_in}
use Rattle.m2_frame_facts.specs.declared.style.Style.{Style}
use Rattle.m2_frame_facts.specs.Line.{head_text, line_end, told_line}
use Rattle.m2_frame_facts.specs.Value.{number, place, places, place_of, fields_text, Told}

place_of-bare : (a : AnyAddr) → place_of (bare_address a) ≡ place_of a
place_of-bare (V4 a) = refl
place_of-bare (Other b) = refl

places_of-bares : (addrs : List AnyAddr) → map place_of (bares addrs) ≡ map place_of addrs
places_of-bares [] = refl
places_of-bares (a ∷ addrs) = ap (λ p. p ∷ map place_of (bares addrs)) (place_of-bare a) ∙ ap (λ ps. place_of a ∷ ps) (places_of-bares addrs)

control_fields-bare : (c : Control) → control_fields (bare c) ≡ control_fields c
control_fields-bare (control.Hello p) = ap (λ x. field (codes "entity") (number p.entity) ∷ field (codes "seen") (place x) ∷ []) (place_of-bare p.seen)
control_fields-bare (control.AuthRequest p) = refl
control_fields-bare (control.AuthBadMethod p) = refl
control_fields-bare (control.AuthDone p) = refl
control_fields-bare (control.AuthSignature p) = refl
control_fields-bare (control.ClientIdent p) = ap (λ x. field (codes "addrs") (places x) ∷ drop 1 (client_ident_fields p)) (places_of-bares p.addrs)
control_fields-bare (control.ServerIdent p) = ap (λ x. field (codes "addrs") (places x) ∷ drop 1 (server_ident_fields p)) (places_of-bares p.addrs)
control_fields-bare (control.IdentMissingFeatures p) = refl
control_fields-bare (control.SessionReconnect p) = ap (λ x. field (codes "addrs") (places x) ∷ drop 1 (session_reconnect_fields p)) (places_of-bares p.addrs)
control_fields-bare (control.SessionReset p) = refl
control_fields-bare (control.SessionRetry p) = refl
control_fields-bare (control.SessionRetryGlobal p) = refl
control_fields-bare (control.SessionReconnectOk p) = refl
control_fields-bare (control.Wait p) = refl
control_fields-bare (control.Keepalive p) = refl
control_fields-bare (control.KeepaliveAck p) = refl
control_fields-bare (control.Ack p) = refl

pub fields_of_bare : (x : Facts) → fields_of (bare_facts x) ≡ fields_of x
fields_of_bare (facts.Message m) = refl
fields_of_bare facts.NoHeader = refl
fields_of_bare (facts.Control c) = control_fields-bare c
fields_of_bare (facts.NoPayload e) = refl
fields_of_bare facts.Aborted = refl

pub same_told : (form : Style) (at tag : ℕ) (x y : Facts) → bare_facts x ≡ y → told_line form at tag x ≡ told_line form at tag y
unfolding told_line
same_told form at tag x y e = ap (λ (t : List Told). head_text form at (name_in tag) ++ fields_text form t ++ line_end form) (sym (fields_of_bare x) ∙ ap fields_of e)
