-- src/play.rt:87:9
use Rattle.session.specs.Player.{held_text}
use Rattle.session.proofs.Written.{framed_as}
use Rattle.session.proofs.play.frame_in.Goals as goal

pub returns : goal.returns
returns c = let both = framed_as (held_text c.args.line c.args.room.now) c.args.room.now c.args.words.now _ _ _ _ c.text_of-text.ensures c.frame_of-frame.ensures c.given-count.ensures.value c.given-count.ensures.room_after in record { frame_value = both.0; count_value = both.1.0; words_after = both.1.1 }
