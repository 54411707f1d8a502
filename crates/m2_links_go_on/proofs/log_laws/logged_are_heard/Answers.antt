-- By what a dispatch does over every list of calls.
use Rattle.m2_dispatch.specs.Laws.{history_of}
use Rattle.m2_dispatch.specs.Letters.{letters_of_key}
use Rattle.m2_dispatch.proofs.Histories.{holds, some-first}
use Rattle.m2_history.proofs.m2_channel.TwoWays.{logs_are}
use Rattle.m2_links_go_on.proofs.AreHeard.{logged_are_heard}
use Rattle.m2_links_go_on.proofs.log_laws.logged_are_heard.Goals as goal

pub returns : goal.returns
returns g c = logged_are_heard (logs_are (record {
  whole = λ peer key calls. (holds peer calls).each key;
  ever = λ peer key calls.
      let h = history_of peer calls in
      some-first (letters_of_key peer key h.ever_dispatched) (letters_of_key peer key h.waiting) (letters_of_key peer key h.ever_put) ((holds peer calls).some key);
}))
