-- What a look at the next message shows.
use Rattle.std.specs.Prelude.{ℕ}
use Rattle.m2_message.specs.Message.{Content, content_of}
use Rattle.m2_queues.specs.declared.due.Due.{Due}

abbrev pub number_due : Due → ℕ
number_due d = d.number

abbrev pub content_due : Due → Content
content_due d = content_of d.message.now
