use Rattle.im_image.proofs.ImageLemmas.{image-remains, remains-image}
use Rattle.im_image.proofs.laws.an_image_is_what_may_remain_of_each_file.Goals as goal

pub returns : goal.returns
returns c = λ first calls image within. (image-remains first calls image, remains-image first calls image within)
