-- An acceptor that has read a greeting reads the ask behind it.
use Rattle.std.proofs.Common.{◌≡◌, ℕ, ◌+◌, ◌*◌, ◌≤◌, ◌<◌, ◌^◌, ◌⊎◌, inl, inr, true, List, [], ◌∷◌, ◌++◌, length, Some, None, Result, Ok, Err, is_ok, refl, sym, ap, ◌∙◌, subst, arith, append_assoc, length-append}
use Rattle.std.specs.Int.{w64, to_le_bytes}
use Rattle.std.specs.List.{AllByRecursion, flat_map}
use Rattle.std.proofs.lemmas.List.Concat.{flat_map-cons}
use Rattle.std.proofs.Math.Seq.{drop-append_seam}
use Rattle.m2_addr.specs.declared.addr.Addr.{Addr}
use Rattle.m2_addr.specs.declared.addr.AnyAddr.{AnyAddr}
use Rattle.m2_addr.specs.declared.fault.AddrFault.{AddrFault}
use Rattle.m2_addr.specs.Addr.{IsSound, any_text, ipv4_text}
use Rattle.m2_addr.specs.Vector.{IsKept, main_of, vector_text}
use Rattle.m2_addr.proofs.Addresses.{short_text}
use Rattle.m2_control.specs.declared.client_ident.ClientIdent.{ClientIdent}
use Rattle.m2_control.specs.declared.session_reconnect.SessionReconnect.{SessionReconnect}
use Rattle.m2_control.specs.declared.control.Control.{Control}
use Rattle.m2_control.specs.declared.control.Control.TheVariants as control
use Rattle.m2_control.specs.ClientIdent.{bare_client_ident, client_ident_text}
use Rattle.m2_control.specs.Ident.{tail_text}
use Rattle.m2_control.specs.SessionReconnect.{bare_session_reconnect, session_reconnect_text}
use Rattle.m2_control.specs.Laws.{HasAddrRanges, client_tail}
use Rattle.m2_policy.specs.declared.rules.AuthPayload.{AuthPayload}
use Rattle.m2_policy.specs.declared.rules.AuthPayload.TheVariants.{Empty}
use Rattle.m2_handshake.specs.declared.ask.Ask.{Ask}
use Rattle.m2_handshake.specs.declared.ask.Ask.TheVariants.{Ident, Reconnect}
use Rattle.m2_handshake.specs.declared.ask.AskStep.{AskStep}
use Rattle.m2_handshake.specs.declared.ask.AskStep.TheVariants as step
use Rattle.m2_handshake.specs.declared.fault.HalfFault.{HalfFault}
use Rattle.m2_handshake.specs.declared.stage.HalfSide.TheVariants.{Acceptor}
use Rattle.m2_handshake.specs.declared.stage.Stage.TheVariants.{Authed, Asked}
use Rattle.m2_handshake.specs.Asking.{AskEnds}
use Rattle.m2_handshake.specs.Asks.{bare_ask, known_main, under, asked_of, ask_in}
use Rattle.m2_handshake.specs.Course.{Exchange, Reaches}
use Rattle.m2_handshake.specs.Greeting.{greeting, welcome, control_of, addrs_of, KeepsBounds, Behind, text_behind, HasAsked, AskGives, AsksNext, IsGreeted, GreetingIsAsked}
use Rattle.m2_handshake.specs.Moves.{Move, stays, quiet, signs, asks, fails, take_frame, after_asking, ask_move_of, Quietly}
use Rattle.m2_handshake.specs.Standing.{Standing, acceptor_at_start}
use Rattle.m2_handshake.specs.Texts.{control_parts, frame_text, hello, request, signature}
use Rattle.m2_handshake.specs.Moves.{features}
use Rattle.m2_control.specs.Banner.{banner_text}
use Rattle.m2_handshake.proofs.Greeting.{IsSent, payload_read, no_bytes, at, frame_found, signs_there}
use Rattle.m2_handshake.proofs.Leading.{true_isnt_false}
use Rattle.m2_handshake.proofs.Reaching.{by_move, silently, asking}
use Rattle.m2_handshake.proofs.Speaking.{authed_greets}
use Rattle.m2_control.proofs.Raised.{main_same}

-- ---- how long its text is

texts_few : (addrs : List AnyAddr) → AllByRecursion IsSound addrs → length (flat_map any_text addrs) ≤ 4103 * length addrs
texts_few [] all = omega arith
texts_few (a ∷ addrs) all = omega (arith, short_text a all.0, texts_few addrs all.1, ap length (flat_map-cons any_text a addrs), length-append (any_text a) (flat_map any_text addrs))

vector_few : (addrs : List AnyAddr) → IsKept addrs → length (vector_text addrs) ≤ 262597
vector_few addrs kept = let k : length addrs ≤ 64 = kept.few in let j = texts_few addrs kept.sound in omega arith

three_few : (n : ℕ) (a b c : List ℕ) → length a ≤ n → length (a ++ b ++ c) ≤ n + length b + length c
three_few n a b c h = omega (arith, length-append (a ++ b) c, length-append a b)

ident_few : (i : ClientIdent) → IsKept i.addrs → length (client_ident_text i) ≤ 262680
ident_few i kept =
    let few : length (client_ident_text i) ≤ 262597 + length (ipv4_text i.target) + length (tail_text (client_tail i)) =
    three_few 262597 (vector_text i.addrs) (ipv4_text i.target) (tail_text (client_tail i)) (vector_few i.addrs kept) in
    omega (arith, few)

six_few : (n : ℕ) (a b c d e f : List ℕ) → length a ≤ n → length (a ++ b ++ c ++ d ++ e ++ f) ≤ n + length b + length c + length d + length e + length f
six_few n a b c d e f h = omega (arith, three_few (n + length b + length c + length d) (a ++ b ++ c ++ d) e f (three_few (n + length b) (a ++ b) c d (omega (arith, length-append a b))))

reconnect_few : (r : SessionReconnect) → IsKept r.addrs → length (session_reconnect_text r) ≤ 262680
reconnect_few r kept =
    let few : length (session_reconnect_text r) ≤ 262597 + 8 + 8 + 8 + 8 + 8 =
    six_few 262597 (vector_text r.addrs) (to_le_bytes w64 r.client) (to_le_bytes w64 r.server) (to_le_bytes w64 r.global) (to_le_bytes w64 r.connect) (to_le_bytes w64 r.seen) (vector_few r.addrs kept) in
    omega (arith, few)

ask_sent : (ask : Ask) → KeepsBounds ask → IsSent (control_of ask)
ask_sent (Ident i) k = record {
  fits = record { tag_from = omega arith; tag_to = omega arith; count = omega arith; first = omega (arith, ident_few i k.ranges.0); second = omega arith; third = omega arith; fourth = omega arith };
  bytes = record { first = k.bytes; second = no_bytes; third = no_bytes; fourth = no_bytes };
  read = payload_read (control.ClientIdent i) k.ranges k.bounds;
}
ask_sent (Reconnect r) k = record {
  fits = record { tag_from = omega arith; tag_to = omega arith; count = omega arith; first = omega (arith, reconnect_few r k.ranges.0); second = omega arith; third = omega arith; fourth = omega arith };
  bytes = record { first = k.bytes; second = no_bytes; third = no_bytes; fourth = no_bytes };
  read = payload_read (control.SessionReconnect r) k.ranges k.bounds;
}

-- ---- who asks

found : (r : Result Addr AddrFault) → is_ok r ≡ true → (main : Addr) × (r ≡ Ok main)
found (Ok a) e = (a, refl)
found (Err f) e = absurd (true_isnt_false (sym e))

main_found : (ask : Ask) → KeepsBounds ask → (main : Addr) × (main_of (addrs_of ask) ≡ Ok main)
main_found (Ident i) k = found (main_of i.addrs) k.bounds.0
main_found (Reconnect r) k = found (main_of r.addrs) k.bounds.0

read_as : (ask : Ask) (main : Addr) → IsSent (control_of ask) → main_of (addrs_of ask) ≡ Ok main → ask_in None (control_parts (control_of ask)) ≡ Ok (bare_ask ask, main)
read_as (Ident i) main k m = ap (asked_of None) k.read ∙ ap (λ (r : Result Addr AddrFault). under (Ident (bare_client_ident i)) (known_main None r)) (main_same i.addrs ∙ m)
read_as (Reconnect r) main k m = ap (asked_of None) k.read ∙ ap (λ (x : Result Addr AddrFault). under (Reconnect (bare_session_reconnect r)) (known_main None x)) (main_same r.addrs ∙ m)

-- ---- its moves

abbrev asked_at : ℕ → Addr → Addr → List ℕ → Standing
asked_at own seen main more = record { side = Acceptor; auth = Empty; entity = own; seen = seen; stage = Asked; peer = Some main; held = None; rest = more }

takes_ask : (own : ℕ) (seen : Addr) (c : Control) (more : List ℕ) → IsSent c → ask_move_of (at own seen Authed None (frame_text c ++ more)) ≡ quiet (at own seen Authed (Some (control_parts c)) more)
takes_ask own seen c more k =
    let s = at own seen Authed None (frame_text c ++ more) in
    ap (take_frame s) (frame_found c more k) ∙ ap (λ (r : List ℕ). quiet (at own seen Authed (Some (control_parts c)) r)) (drop-append_seam (frame_text c) more)

reads_ask : (own : ℕ) (seen : Addr) (ask : Ask) (main : Addr) (more : List ℕ) → IsSent (control_of ask) → main_of (addrs_of ask) ≡ Ok main →
    ask_move_of (at own seen Authed (Some (control_parts (control_of ask))) more) ≡ asks (bare_ask ask) (asked_at own seen main more)
reads_ask own seen ask main more k m = ap (after_asking (at own seen Authed (Some (control_parts (control_of ask))) more)) (read_as ask main k m)

-- ---- what `ask` answers

same_quiet : (a b : Standing) → quiet a ≡ quiet b → a ≡ b
same_quiet a b e = cc

quiet_isnt_stays : (a : Standing) → quiet a ≡ stays → ⊥
quiet_isnt_stays a e = cc

quiet_isnt_asks : (a b : Standing) (ask : Ask) → quiet a ≡ asks ask b → ⊥
quiet_isnt_asks a b ask e = cc

quiet_isnt_fails : (a : Standing) (f : HalfFault) → quiet a ≡ fails f → ⊥
quiet_isnt_fails a f e = cc

asks_isnt_stays : (ask : Ask) (a : Standing) → asks ask a ≡ stays → ⊥
asks_isnt_stays ask a e = cc

asks_isnt_fails : (ask : Ask) (a : Standing) (f : HalfFault) → asks ask a ≡ fails f → ⊥
asks_isnt_fails ask a f e = cc

same_asks : (x y : Ask) (a b : Standing) → asks x a ≡ asks y b → (x ≡ y) × (a ≡ b)
same_asks x y a b e = (cc, cc)

quietly_both : (move : Standing → Move) (ms ns : List Standing) (a b c : Standing) → Quietly move ms a b → Quietly move ns b c → Quietly move (ms ++ ns) a c
quietly_both move [] ns a b c same path = subst (λ (s : Standing). Quietly move ns s c) (sym same) path
quietly_both move (m ∷ ms) ns a b c (q, rest) path = (q, quietly_both move ms ns m b c rest path)

-- the two standings on the way to an ask
record IsWay (s held : Standing) (ask : Ask) (end : Standing) : Type 0 where
  takes : ask_move_of s ≡ quiet held
  reads : ask_move_of held ≡ asks ask end

on_way : (s held : Standing) (ask : Ask) (end : Standing) (ms : List Standing) (mid : Standing) → IsWay s held ask end → Quietly ask_move_of ms s mid → (s ≡ mid) ⊎ (held ≡ mid)
on_way s held ask end [] mid w same = inl same
on_way s held ask end (m ∷ []) mid w (q, same) = inr (same_quiet held m (sym w.takes ∙ q) ∙ same)
on_way s held ask end (m ∷ n ∷ ms) mid w (q, (p, path)) =
    let same : held ≡ m = same_quiet held m (sym w.takes ∙ q) in
    absurd (quiet_isnt_asks n end ask (sym p ∙ sym (ap ask_move_of same) ∙ w.reads))

gives : (s held end mid new : Standing) (b : Behind) (result : AskStep) (ms : List Standing) → IsWay s held (bare_ask b.ask) end → HasAsked end b → Quietly ask_move_of ms s mid → AskEnds result mid new → (s ≡ mid) ⊎ (held ≡ mid) →
    AskGives s b result new
gives s held end mid new b step.NotYet ms w h path e (inl q) = absurd (quiet_isnt_stays held (sym w.takes ∙ ap ask_move_of q ∙ e.0))
gives s held end mid new b step.NotYet ms w h path e (inr q) = absurd (asks_isnt_stays (bare_ask b.ask) end (sym w.reads ∙ ap ask_move_of q ∙ e.0))
gives s held end mid new b (step.Asked ask) ms w h path e (inl q) = absurd (quiet_isnt_asks held new (bare_ask ask) (sym w.takes ∙ ap ask_move_of q ∙ e))
gives s held end mid new b (step.Asked ask) ms w h path e (inr q) =
    let same = same_asks (bare_ask b.ask) (bare_ask ask) end new (sym w.reads ∙ ap ask_move_of q ∙ e) in
    (sym same.0, subst (λ (t : Standing). HasAsked t b) same.1 h)
gives s held end mid new b (step.Fault f) ms w h path e (inl q) = absurd (quiet_isnt_fails held f (sym w.takes ∙ ap ask_move_of q ∙ e.0))
gives s held end mid new b (step.Fault f) ms w h path e (inr q) = absurd (asks_isnt_fails (bare_ask b.ask) end f (sym w.reads ∙ ap ask_move_of q ∙ e.0))
gives s held end mid new b step.NoMemory ms w h path e q = (ms, subst (λ (t : Standing). Quietly ask_move_of ms s t) (sym e.1) path)

asks_next : (s held end : Standing) (b : Behind) → IsWay s held (bare_ask b.ask) end → HasAsked end b → AsksNext s b
asks_next s held end b w h passed mid new result path a =
    let whole_path = quietly_both ask_move_of passed a.passed s mid a.mid path a.quietly in
    gives s held end a.mid new b result (passed ++ a.passed) w h whole_path a.ends (on_way s held (bare_ask b.ask) end (passed ++ a.passed) a.mid w whole_path)

-- ---- all of it

joined : (a b c d more : List ℕ) → a ++ (b ++ (c ++ (d ++ more))) ≡ (a ++ (b ++ (c ++ (d ++ [])))) ++ more
joined a b c d more = simp append_assoc

greeted : (auth : AuthPayload) (entity own : ℕ) (dialled seen : Addr) (b : Behind) → entity < 2 ^ 8 → HasAddrRanges dialled → KeepsBounds b.ask → IsGreeted own seen (greeting auth entity dialled (text_behind b)) b
greeted auth entity own dialled seen b e h k =
    let c = control_of b.ask in
    let sent = ask_sent b.ask k in
    let found = main_found b.ask k in
    let begin = acceptor_at_start own seen in
    let x : Exchange = record { bytes = greeting auth entity dialled (text_behind b); replies = []; text = welcome own seen; asks = [] } in
    let s = at own seen Authed None (text_behind b) in
    let held = at own seen Authed (Some (control_parts c)) b.more in
    let end = asked_at own seen found.0 b.more in
    let there = signs_there auth entity own dialled seen (text_behind b) e h in
    let takes : ask_move_of s ≡ quiet held = takes_ask own seen c b.more sent in
    let reads : ask_move_of held ≡ asks (bare_ask b.ask) end = reads_ask own seen b.ask found.0 b.more sent found.1 in
    let has : HasAsked end b = record { stage = refl; held = refl; main = found.0; is_main = found.1; peer = refl; rest = refl } in
    let signed : Reaches begin x s = silently begin there.0 s x there.1 (by_move there.0 (signs s) there.2) in
    let taken : Reaches begin x held = silently begin s held x signed (by_move s (quiet held) takes) in
    record {
      signed = s;
      has_signed = record { stage = refl; held = refl; rest = refl };
      signs = there;
      can = refl;
      asks = asks_next s held end b (record { takes = takes; reads = reads }) has;
      asked = end;
      has_asked = has;
      comes = asking begin held end x (bare_ask b.ask) taken (by_move held (asks (bare_ask b.ask) end) reads);
    }

pub greeting_is_asked : GreetingIsAsked
greeting_is_asked auth entity own dialled seen b x opener e h k r q =
    let words : x.text ≡ greeting auth entity dialled [] = authed_greets auth entity dialled x opener r q in
    let same : greeting auth entity dialled (text_behind b) ≡ x.text ++ text_behind b =
    joined (banner_text features) (frame_text (hello entity dialled)) (frame_text (request auth)) (frame_text signature) (text_behind b) ∙ ap (λ (l : List ℕ). l ++ text_behind b) (sym words) in
    subst (λ (l : List ℕ). IsGreeted own seen l b) same (greeted auth entity own dialled seen b e h k)
