use Rattle.image_sound.proofs.FileLaws.{file_there}
use Rattle.image_sound.proofs.files.file_judged.Goals as goal

pub returns : goal.returns
returns c = let a = c.args in file_there a.b.now a.at c.requires (λ i. (c.shared_slice_known-1.given i).fits) a.m a.w _ _ _ _ _ _ _ _ _ c.flags_tight-flags.ensures c.two_at-size.ensures c.two_at-rlen.ensures c.two_at-number.ensures c.slot_judged-low.ensures c.slot_judged-high.ensures c.sizes_fit-sizes.ensures c.kinds_right-kinds.ensures c.second_right-second.ensures
