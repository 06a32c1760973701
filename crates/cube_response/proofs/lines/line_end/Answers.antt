-- `line_end`: the first line feed, or the input's end.
use mathlib.Core.Path.{ap, ◌∙◌}
use Rattle.std.specs.Prelude.{unwrap_or}
use lib.ListN.{length}
use Rattle.cube_response.proofs.ProgramLaws.{line_feed_or_end}
use Rattle.cube_response.proofs.lines.line_end.Goals as goal

pub returns : goal.returns
returns c =
    c.unwrap_or.ensures ∙ ap (λ r. unwrap_or r (length c.args.input.now)) c.line_feed.ensures ∙ line_feed_or_end c.args.input.now
