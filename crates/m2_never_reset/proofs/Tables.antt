-- What the judgement tables of a session answer is a step of the link: each answer needs what its row and the rows
-- before it say.
use Rattle.std.proofs.Common.{◌≡◌, ◌≢◌, ℕ, ◌≤◌, ◌⊎◌, inl, inr, Bool, true, false, true≢false, not, ◌&&◌, ◌==◌, refl, sym, ap, ◌∙◌, subst}
use Rattle.std.proofs.lemmas.Bool.{eqb-true, eq-eqb}
use Rattle.m2_session.specs.declared.session.Session.{Session}
use Rattle.m2_session.specs.declared.session.Phase.{Phase}
use Rattle.m2_session.specs.declared.session.Phase.TheVariants as phase
use Rattle.m2_session.specs.declared.answer.Answer.TheVariants as answer
use Rattle.m2_session.specs.Table.{first_that_holds}
use Rattle.m2_session.specs.Phases.{is}
use Rattle.m2_session.specs.Conditions.{differs, is_above, is_kept}
use Rattle.m2_session.specs.Ident.{ident_rows}
use Rattle.m2_session.specs.Reconnect.{Reconnect, reconnect_rows}
use Rattle.m2_never_reset.specs.Roles.{Role}
use Rattle.m2_never_reset.specs.Asks.{Ident}
use Rattle.m2_never_reset.specs.Link.{Stand, absent, standby, waiting, Node}
use Rattle.m2_never_reset.specs.Steps.{IsAtRest, HasLeft, IsAnotherClient, Accepts, Names}
use Rattle.m2_never_reset.specs.Sessions.{IsKept, IsIdentStep, IsReconnectStep}
use Rattle.m2_never_reset.specs.CrossingLaws.{AnswersAreSteps}
use Rattle.m2_queues.proofs.m2_lemmas.Booleans.{negated_is_false, negated_is_true}
use Rattle.m2_session.proofs.Answers.{not_above}
use Rattle.m2_session.proofs.Rows.{each_in_order}

-- ---- words of the conditions

and_left : (a b : Bool) → (a && b) ≡ true → a ≡ true
and_left true b h = refl
and_left false b h = h

and_right : (a b : Bool) → (a && b) ≡ true → b ≡ true
and_right true b h = h
and_right false b h = absurd (true≢false (sym h))

not_not : (b : Bool) → not (not b) ≡ true → b ≡ true
not_not true h = refl
not_not false h = h

-- not the same number
unequal : (a b : ℕ) → differs a b ≡ true → a ≢ b
unequal a b h e = true≢false (sym (eq-eqb a b e) ∙ negated_is_false (a == b) h)

equal : (a b : ℕ) → differs a b ≡ false → a ≡ b
equal a b h = eqb-true a b (negated_is_true (a == b) h)

kept : (c : ℕ) → is_kept c ≡ true → c ≢ 0
kept c h e = true≢false (sym (eq-eqb c 0 e) ∙ negated_is_false (c == 0) h)

unkept : (c : ℕ) → not (is_kept c) ≡ true → c ≡ 0
unkept c h = eqb-true c 0 (not_not (c == 0) h)

still_kept : (c : ℕ) → not (is_kept c) ≡ false → c ≢ 0
still_kept c h = kept c (negated_is_true (is_kept c) h)

is_absent : (p : Phase) → is p phase.Absent ≡ true → p ≡ phase.Absent
is_absent phase.Absent h = refl
is_absent phase.Connecting h = absurd (true≢false (sym h))
is_absent phase.IdentSent h = absurd (true≢false (sym h))
is_absent phase.ReconnectSent h = absurd (true≢false (sym h))
is_absent phase.Ready h = absurd (true≢false (sym h))
is_absent phase.Standby h = absurd (true≢false (sym h))
is_absent phase.Wait h = absurd (true≢false (sym h))

-- ---- an ident

module _ (p : Role) (x : Node) (s : Stand) (session : Session) (k : IsKept p x s session) where
  stands_absent : is session.phase phase.Absent ≡ true → s ≡ absent
  stands_absent h = k.absent (is_absent session.phase h)

  not_old : (global : ℕ) → is_above session.peer_global global ≡ false → x.peer_global ≤ global
  not_old global h = subst (λ n. n ≤ global) (sym k.peer_global) (not_above session.peer_global global h)

  same_mark : session.policy.resetcheck ≡ p.policy.resetcheck
  same_mark = ap (λ q. q.resetcheck) (sym k.policy)

  accepts_new : (i : Ident) → (x.peer_global ≤ i.global) ⊎ (s ≡ absent) → Accepts p x s i false
  accepts_new i h = record { not_old = h; in_full = inl refl }

  another : (i : Ident) → (is_kept session.client_cookie && is_kept session.server_cookie && differs session.client_cookie i.cookie) ≡ true → IsAnotherClient x i
  another i h =
      let both = and_left (is_kept session.client_cookie && is_kept session.server_cookie) (differs session.client_cookie i.cookie) h in record {
        client = λ e. kept session.client_cookie (and_left (is_kept session.client_cookie) (is_kept session.server_cookie) both) (sym k.client ∙ e);
        server = λ e. kept session.server_cookie (and_right (is_kept session.client_cookie) (is_kept session.server_cookie) both) (sym k.server ∙ e);
        another = λ e. unequal session.client_cookie i.cookie (and_right (is_kept session.client_cookie && is_kept session.server_cookie) (differs session.client_cookie i.cookie) h) (sym k.client ∙ sym e);
      }

  in_full : (i : Ident) (b : Bool) → b ≡ p.policy.resetcheck → IsAnotherClient x i → (b ≡ false) ⊎ ((p.policy.resetcheck ≡ true) × IsAnotherClient x i)
  in_full i true e h = inr (sym e, h)
  in_full i false e h = inl refl

  ident_is_step : (i : Ident) → IsIdentStep p x s i (first_that_holds (ident_rows session i.cookie i.global) answer.Wait)
  ident_is_step i = each_in_order (IsIdentStep p x s i) (ident_rows session i.cookie i.global) answer.Wait (
    λ none. accepts_new i (inr (stands_absent none)),
    λ some. (
      λ old. tt,
      λ fresh. (
        λ lossy. accepts_new i (inl (not_old i.global fresh)),
        λ h. (
          λ other. record { not_old = inl (not_old i.global fresh); in_full = in_full i session.policy.resetcheck same_mark (another i other) },
          λ h. (
            λ h. accepts_new i (inl (not_old i.global fresh)),
            λ h. (
              λ h. accepts_new i (inl (not_old i.global fresh)),
              λ h. (λ h. accepts_new i (inl (not_old i.global fresh)), λ h. tt),
            ),
          ),
        ),
      ),
    ),
  )

  -- ---- a reconnect

  names : (r : Reconnect) → differs session.client_cookie r.client ≡ false → not (is_kept session.server_cookie) ≡ false → differs session.server_cookie r.server ≡ false → Names r x
  names r client established server = record {
    client = sym (equal session.client_cookie r.client client) ∙ sym k.client;
    server = sym (equal session.server_cookie r.server server) ∙ sym k.server;
    kept = λ e. still_kept session.server_cookie established (sym k.server ∙ e);
  }

  another_client : (r : Reconnect) → differs session.client_cookie r.client ≡ true → r.client ≢ x.client
  another_client r h e = unequal session.client_cookie r.client h (sym k.client ∙ sym e)

  another_server : (r : Reconnect) → differs session.server_cookie r.server ≡ true → r.server ≢ x.server
  another_server r h e = unequal session.server_cookie r.server h (sym k.server ∙ sym e)

  at_rest : (u : Stand) → HasLeft u → IsAtRest u
  at_rest standby h = tt
  at_rest waiting h = tt
  at_rest u h = elim h [ ]

  reconnect_is_step : (r : Reconnect) (written : ℕ) → IsReconnectStep p x s r (first_that_holds (reconnect_rows session r written) answer.Resume)
  reconnect_is_step r written = each_in_order (IsReconnectStep p x s r) (reconnect_rows session r written) answer.Resume (
    λ none. inl (inl (stands_absent none), same_mark),
    λ some. (
      λ other. inl (inr (inl (another_client r other)), same_mark),
      λ client. (
        λ never. λ u left. inr (unkept' never, at_rest u left, refl),
        λ established. (
          λ other. inl (inr (inr (λ e. still_kept session.server_cookie established (sym k.server ∙ e), another_server r other)), same_mark),
          λ server. (
            λ old. names r client established server,
            λ fresh. (
              λ h. names r client established server,
              λ h. (
                λ h. names r client established server,
                λ h. (λ h. tt, λ h. record { names = names r client established server; not_old = not_old r.global fresh }),
              ),
            ),
          ),
        ),
      ),
    ),
  )
    where
      unkept' : not (is_kept session.server_cookie) ≡ true → x.server ≡ 0
      unkept' h = k.server ∙ unkept session.server_cookie h

pub answers_lem : AnswersAreSteps
answers_lem = record {
  ident = λ p x s session i k. ident_is_step p x s session k i;
  reconnect = λ p x s session r written k. reconnect_is_step p x s session k r written;
}
