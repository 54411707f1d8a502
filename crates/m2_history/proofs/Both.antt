-- What two logs together have of a key.
use Rattle.std.proofs.Common.{◌≡◌, ℕ, List, [], ◌++◌, sym, ap, ◌∙◌}
use Rattle.m2_channel.proofs.Handing.{heard-append}
use Rattle.m2_dispatch.specs.declared.logged.Logged.{Logged}
use Rattle.m2_dispatch.specs.Heard as heard
use Rattle.m2_dispatch.specs.Heard.{heard_by}
use Rattle.m2_message.specs.Message.{Content}
use Rattle.m2_policy.specs.declared.path.Key.{Key}

pub of_both : (peer : ℕ) (key : Key) (fast log xs ys : List Logged) (none first all : List Content) → none ≡ [] → first ≡ none ++ heard.of_key peer key (heard_by xs) →
    all ≡ first ++ heard.of_key peer key (heard_by ys) → xs ≡ fast → ys ≡ log → all ≡ heard.of_key peer key (heard_by fast ++ heard_by log)
of_both peer key fast log xs ys none first all e f a x y =
    a
    ∙ (ap (λ l. l ++ heard.of_key peer key (heard_by ys)) (f ∙ ap (λ l. l ++ heard.of_key peer key (heard_by xs)) e)
    ∙ (ap (λ l. heard.of_key peer key (heard_by l) ++ heard.of_key peer key (heard_by ys)) x
    ∙ (ap (λ l. heard.of_key peer key (heard_by fast) ++ heard.of_key peer key (heard_by l)) y
    ∙ sym (heard-append peer key (heard_by fast) (heard_by log)))))
