use Rattle.sw_json.specs.Laws.PrintedImages.{image_is}
use Rattle.sw_json.proofs.PrintedImages.{printed_image}
use Rattle.sw_json.proofs.spelling.printed_text_spells_the_image.Goals as goal

pub returns-clause-imaged : goal.returns-clause-imaged
returns-clause-imaged c = image_is

pub returns-clause-spells : goal.returns-clause-spells
returns-clause-spells c = printed_image
