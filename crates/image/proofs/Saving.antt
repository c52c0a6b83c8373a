-- From tables to the bytes that `save` writes.
pub mod PutLaws
pub mod SaveLaws
pub mod ImageLaws
pub mod SizeLaws
